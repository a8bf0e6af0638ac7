-- The loops over rates, from a table or from a file that was checked: the rates passed take so many bytes, or stand in the buffer, and there is room for the
-- next one. True since the bytes of rates are those of each in turn.
-- Assumes nothing.
use mathlib.Core.Path.{◌≡◌, refl, sym, ap, ◌∙◌}
use mathlib.Core.List.{List, [], ◌∷◌, ◌++◌, append_assoc, append-nil}
use Prim.Native.Nat.{ℕ, ◌+◌, ◌≤◌}
use native.Mathlib.Omega.{arith}
use lib.IntN.{ℤ}
use lib.ListN.{length, length-append}
use lib.Seq.{append_snoc}
use Rattle.naturals.specs.FirstFailing.{Passes}
use Rattle.hierarchy.proofs.Values.{value_suc}
use Rattle.tables.specs.Tables.{rate_at}
use Rattle.buffers.specs.Put.{Put}
use Rattle.buffers.proofs.Puts.{put_nothing, put_then, put_length, put_as}
use Rattle.house_numbers.specs.Numbers.{filed, rate_of}
use Rattle.house_numbers.proofs.Filing.{filed_of_rate}
use Rattle.house_file.specs.Written.{AllRates, written, written_rates}

-- Every place that passes holds a rate.
pub all_rates : (rates : List ℤ) → Passes (rate_at rates) (length rates) → AllRates rates
unfolding rate_at
all_rates rates passes p h = rw (value_suc rates p) at (passes p h)

written_append : (a b : List ℤ) → written_rates (a ++ b) ≡ written_rates a ++ written_rates b
unfolding written_rates
written_append [] b = refl
written_append (rate ∷ a) b =
    ap (λ (l : List ℕ). written (filed rate) ++ l) (written_append a b) ∙ sym (append_assoc (written (filed rate)) (written_rates a) (written_rates b))

written_one : (rate : ℤ) → written_rates (rate ∷ []) ≡ written (filed rate)
unfolding written_rates
written_one rate = append-nil (written (filed rate))

written_next : (done : List ℤ) (rate : ℤ) → written_rates (done ++ rate ∷ []) ≡ written_rates done ++ written (filed rate)
written_next done rate = written_append done (rate ∷ []) ∙ ap (λ (l : List ℕ). written_rates done ++ l) (written_one rate)

-- Writing a number is writing the rate whose filed number it is.
refiled : (u : ℕ) → written (filed (rate_of u)) ≡ written u
refiled u = ap written (filed_of_rate u)

-- Of the rates some are done, the first that is left has the filed number u, and others are behind it.
module _ {rates left more : List ℤ} (done : List ℤ) (u : ℕ) (split : rates ≡ done ++ left) (is : left ≡ rate_of u ∷ more) where
  pub next_split : rates ≡ (done ++ rate_of u ∷ []) ++ more
  next_split = split ∙ ap (λ (l : List ℤ). done ++ l) is ∙ sym (append_snoc done (rate_of u) more)

  next_written : written_rates (done ++ rate_of u ∷ []) ≡ written_rates done ++ written u
  next_written = written_next done (rate_of u) ∙ ap (λ (l : List ℕ). written_rates done ++ l) (refiled u)

  pub next_room : length (written_rates done) + length (written u) ≤ length (written_rates rates)
  next_room =
      omega (
        arith,
        ap (λ (l : List ℤ). length (written_rates l)) next_split,
        ap length (written_append (done ++ rate_of u ∷ []) more),
        length-append (written_rates (done ++ rate_of u ∷ [])) (written_rates more),
        ap length next_written,
        length-append (written_rates done) (written u),
      )

-- The loop that counts: so many bytes the rates take that are done.
pub record Sized (rates left : List ℤ) (total : ℕ) : Type 0 where
  pub done : List ℤ
  pub split : rates ≡ done ++ left
  pub size : total ≡ length (written_rates done)

pub sized_starts : (rates : List ℤ) → Sized rates rates 0
unfolding written_rates
sized_starts rates = record { done = []; split = refl; size = refl }

module _ {rates left : List ℤ} {total : ℕ} (s : Sized rates left total) where
  module _ (u : ℕ) {more : List ℤ} (is : left ≡ rate_of u ∷ more) where
    pub sized_fits : total + length (written u) ≤ length (written_rates rates)
    sized_fits = omega (arith, s.size, next_room s.done u s.split is)

    pub sized_steps : Sized rates more (total + length (written u))
    sized_steps =
        record {
          done = s.done ++ rate_of u ∷ [];
          split = next_split s.done u s.split is;
          size = omega (arith, s.size, ap length (next_written s.done u s.split is), length-append (written_rates s.done) (written u));
        }

-- The loop that writes: the rates that are done stand at the front of the buffer.
pub record Placed (rates left : List ℤ) (old new : List ℕ) (at : ℕ) : Type 0 where
  pub done : List ℤ
  pub split : rates ≡ done ++ left
  pub put : Put (written_rates done) old 0 new at

pub placed_starts : (rates : List ℤ) (old : List ℕ) → Placed rates rates old old 0
unfolding written_rates
placed_starts rates old = record { done = []; split = refl; put = put_nothing old 0 }

module _ {rates left : List ℤ} {old new : List ℕ} {at : ℕ} (p : Placed rates left old new at) where
  module _ (room : length (written_rates rates) ≤ length old) (u : ℕ) {more : List ℤ} (is : left ≡ rate_of u ∷ more) where
    pub placed_room : at + length (written u) ≤ length new
    placed_room = omega (arith, p.put.after, put_length p.put, next_room p.done u p.split is, room)

    pub placed_steps : {newer : List ℕ} {next : ℕ} → Put (written u) new at newer next → Placed rates more old newer next
    placed_steps q =
        record {
          done = p.done ++ rate_of u ∷ [];
          split = next_split p.done u p.split is;
          put = put_as (sym (next_written p.done u p.split is)) (put_then p.put q);
        }
