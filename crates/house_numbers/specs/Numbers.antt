-- Numbers and rates of a house file (document 01, "House file"). A byte is a number below 256.
-- Assumes nothing.
use Rattle.std.specs.Prelude.{List, [], ◌∷◌, ℕ, zero, suc, ◌+◌, ◌-◌, ◌*◌, ◌/◌, ◌%◌, leb, ltb, eqb, ℤ, pos, negsuc, if◌then◌else◌}
use Rattle.refusals.specs.declared.Refusal.TheVariants.{FileEnds, FiledNumber}
use Rattle.refusals.specs.Checks.{unless}
use Rattle.house_numbers.specs.Reading.{Read, got, refused, ◌next◌, ◌then_read◌}

-- A group of seven bits, and the groups above it.
unfoldable pub below : ℕ → ℕ → List ℕ → Read ℕ
below low high rest = got (low + 128 * high) rest

-- A number in at most k bytes, in groups of seven bits, lowest group first: the top bit of a byte says that another follows. Where the bytes end first it is
-- refused with 11; where the k bytes all say that another follows, with 12.
unfoldable pub groups : ℕ → List ℕ → Read ℕ
groups zero bytes = refused FiledNumber
groups (suc k) [] = refused FileEnds
groups (suc k) (b ∷ bytes) = if ltb b 128 then got b bytes else (groups k bytes next below (b - 128))

-- The largest number that can be filed.
unfoldable pub largest : ℕ
largest = 4294967295

-- A number that is not too large; else it is refused with 12.
unfoldable pub limited : ℕ → List ℕ → Read ℕ
limited n rest = unless (leb n largest) FiledNumber then_read got n rest

-- A filed number: at most 5 bytes, and at most 4,294,967,295.
unfoldable pub read_number : List ℕ → Read ℕ
read_number bytes = groups 5 bytes next limited

-- The filed form of a rate r: 2r if r ≥ 0, else −2r − 1.
unfoldable pub filed : ℤ → ℕ
filed (pos n) = 2 * n
filed (negsuc n) = 2 * n + 1

-- The rate of a filed number u: u/2 if u is even, else −(u + 1)/2.
unfoldable pub rate_of : ℕ → ℤ
rate_of u = if eqb (u % 2) 0 then pos (u / 2) else negsuc (u / 2)
