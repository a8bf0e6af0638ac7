-- The first place that fails a test: where several axes or values would be refused, the place of the refusal is the first.
-- Assumes nothing.
use Rattle.std.specs.Prelude.{Bool, true, ◌≡◌, ℕ, zero, suc, ◌<◌, ltb, if◌then◌else◌}

-- A test passes at every place below a bound.
abbrev pub Passes : (ℕ → Bool) → ℕ → Type 0
Passes f m = (k : ℕ) → k < m → f k ≡ true

-- The first failing place k below m, or m where there is none, taken one place further.
abbrev pub further : ℕ → ℕ → Bool → ℕ
further k m pass = if ltb k m then k else if pass then suc m else m

-- The smallest k below m at which a test fails, and m where it passes everywhere.
unfoldable pub first_failing : (ℕ → Bool) → ℕ → ℕ
first_failing f zero = zero
first_failing f (suc m) = further (first_failing f m) m (f m)
