-- What load, adopt and unload answer, by the first check that refuses. Each case is the definition with its tests decided.
-- Assumes nothing.
use Rattle.std.specs.Prelude.{Ok, Err}
use Rattle.std.proofs.Common.{◌≡◌, true, false, List, map, length, ℤ}
use Rattle.naturals.specs.Test.{all}
use Rattle.refusals.specs.declared.Refusal.{Refusal}
use Rattle.refusals.specs.declared.Refusal.TheVariants.{Contents}
use Rattle.integers.specs.Half.{content_at}
use Rattle.shapes.specs.declared.Shape.{Shape}
use Rattle.states.specs.declared.State.{State}
use Rattle.states.specs.After.{after, left, kept}
use Rattle.states.specs.States.{check_state}
use Rattle.tables.specs.Tables.{check_table, check_rated, times, load, adopted, adopt, quotient, scaled_at, check_sampled, unload}

module _ (s : Shape) (xs : List ℤ) where
  pub load_refused : (r : Refusal) → check_rated s xs ≡ Err r → load s xs ≡ kept xs r
  unfolding load
  load_refused r e = rw e

  pub load_done : check_rated s xs ≡ Ok tt → load s xs ≡ after (Ok (record { shape = s; forward = 0 })) (map (times s.axes) xs)
  unfolding load
  load_done e = rw e

  pub adopt_unchecked : (r : Refusal) → check_table s xs ≡ Err r → adopt s xs ≡ Err r
  unfolding adopt
  adopt_unchecked r e = rw e

  module _ (e : check_table s xs ≡ Ok tt) where
    pub adopt_refused : all (content_at xs) (length xs) ≡ false → adopt s xs ≡ Err Contents
    unfolding adopt
    adopt_refused h = rw (e, h)

    pub adopt_done : all (content_at xs) (length xs) ≡ true → adopt s xs ≡ Ok (adopted s)
    unfolding adopt
    adopt_done h = rw (e, h)

module _ (s : State) (xs : List ℤ) where
  pub unload_unchecked : (r : Refusal) → check_state s (length xs) ≡ Err r → unload s xs ≡ left (Err r) xs
  unfolding unload
  unload_unchecked r e = rw e

  module _ (e : check_state s (length xs) ≡ Ok tt) where
    pub unload_forward : (r : Refusal) → check_sampled s ≡ Err r → unload s xs ≡ left (Err r) xs
    unfolding unload
    unload_forward r h = rw (e, h)

    pub unload_refused : check_sampled s ≡ Ok tt → all (scaled_at s.shape.axes xs) (length xs) ≡ false →
        unload s xs ≡ left (Err Contents) xs
    unfolding unload
    unload_refused h a = rw (e, h, a)

    pub unload_done : check_sampled s ≡ Ok tt → all (scaled_at s.shape.axes xs) (length xs) ≡ true →
        unload s xs ≡ left (Ok tt) (map (quotient s.shape.axes) xs)
    unfolding unload
    unload_done h a = rw (e, h, a)
