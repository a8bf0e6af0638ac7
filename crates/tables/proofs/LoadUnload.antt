-- Load and unload undo each other: where load accepts rates, unload of what it leaves gives the rates again, and where unload accepts a table, load of what
-- it leaves gives the table and its state again. True since the quotient of a rate times 2^d is the rate, a value that unload accepts is its quotient times
-- 2^d, and a byte with no bit set below d and none above is 0.
-- Assumes nothing.
use Rattle.std.specs.Prelude.{Ok, Err}
use Rattle.std.proofs.Common.{◌≡◌, ℕ, suc, ◌%◌, ◌^◌, ◌<◌, true, List, [], ◌∷◌, map, length, get_or, ℤ, pos, nat_abs, sym, refl, ap, ◌∙◌, ap₂, arith, pow_pos}
use lib.ListN.{length-map}
use Rattle.naturals.specs.Test.{all}
use Rattle.naturals.proofs.Tests.{all_at, all_from}
use Rattle.naturals.specs.FirstFailing.{Passes}
use Rattle.refusals.specs.declared.Refusal.TheVariants.{Contents, StillForward}
use Rattle.refusals.specs.Checks.{unless, ◌and_then◌, answer, Verdict}
use Rattle.refusals.proofs.Passing.{first_passed, next_passed, test_passed}
use Rattle.integers.specs.Half.{is_rate}
use Rattle.hierarchy.specs.Turns.{value_at}
use Rattle.hierarchy.proofs.Values.{value_mapped, value_suc}
use Rattle.shapes.specs.declared.Shape.{Shape}
use Rattle.states.specs.declared.State.{State}
use Rattle.states.specs.After.{After, after, kept, Left, left, left_by}
use Rattle.states.specs.States.{check_state}
use Rattle.states.proofs.Bits.{no_bits, no_axis_lem}
use Rattle.states.proofs.Checked.{Stands, state_passed, state_passes, axes_passed, axes_pass}
use Rattle.tables.specs.Tables.{rate_at, check_rated, times, load, quotient, is_scaled, scaled_at, check_sampled, unload}
use Rattle.tables.proofs.Answering.{load_done, unload_done}
use Rattle.tables.proofs.Checking.{Opens, rated_pass, rated_opens, rated_passes}
use Rattle.tables.proofs.Quotients.{quotient_times, times_quotient, times_zero, quotient_zero, scaled_parts, is_scaled_rate}

-- ---- lists

-- One step undoes another where it does so at each value.
map_back : (f g : ℤ → ℤ) (xs : List ℤ) → ((p : ℕ) → p < length xs → f (g (get_or xs p (pos 0))) ≡ get_or xs p (pos 0)) → map f (map g xs) ≡ xs
map_back f g [] each = refl
map_back f g (x ∷ xs) each = ap₂ ◌∷◌ (each 0 (omega arith)) (map_back f g xs (λ p h. each (suc p) (omega arith)))

-- ---- load, then unload

module _ (s : Shape) (xs : List ℤ) (opens : Opens s xs) (rates : Passes (rate_at xs) (length xs)) where
  loaded : State
  loaded = record { shape = s; forward = 0 }

  scaled : List ℤ
  scaled = map (times s.axes) xs

  loaded_passes : check_state loaded (length scaled) ≡ Ok tt
  unfolding loaded scaled
  loaded_passes =
      state_passes loaded (length scaled)
      (record { range = opens.range; few = pow_pos s.axes; long = length-map xs (times s.axes) ∙ opens.long })

  none_forward : check_sampled loaded ≡ Ok tt
  unfolding check_sampled loaded
  none_forward = axes_pass true StillForward loaded (λ t h. no_bits t)

  all_scaled : all (scaled_at s.axes scaled) (length scaled) ≡ true
  unfolding scaled_at rate_at scaled
  all_scaled =
      all_from (scaled_at s.axes scaled) (length scaled)
      (λ p h.
      ap (is_scaled s.axes) (value_mapped (times s.axes) xs (times_zero s.axes) (suc p))
      ∙ is_scaled_rate s.axes (value_at xs (suc p)) (rates p (omega (arith, length-map xs (times s.axes)))))

  unload_loaded : unload loaded scaled ≡ left (Ok tt) xs
  unfolding loaded scaled
  unload_loaded =
      unload_done loaded scaled loaded_passes none_forward all_scaled
      ∙ ap (left (Ok tt)) (map_back (quotient s.axes) (times s.axes) xs (λ p h. quotient_times s.axes (get_or xs p (pos 0))))

-- What is done has passed.
done_passed : (xs : List ℤ) (v : Verdict) (res : After) (st : State) (ys : List ℤ) → answer (kept xs) v res ≡ after (Ok st) ys → v ≡ Ok tt
done_passed xs (Ok _) res st ys e = refl
done_passed xs (Err r) res st ys e =
    let never : Err r ≡ Ok st = ap (λ (a : After). a.answer) e in cc

pub load_unload : (s : Shape) (xs : List ℤ) (st : State) (ys : List ℤ) → load s xs ≡ after (Ok st) ys → unload st ys ≡ left (Ok tt) xs
unfolding load
load_unload s xs st ys e =
    let passed = done_passed xs (check_rated s xs) _ st ys e in
    let same : after (Ok (record { shape = s; forward = 0 })) (map (times s.axes) xs) ≡ after (Ok st) ys = sym (load_done s xs passed) ∙ e in
    let done : Ok (record { shape = s; forward = 0 }) ≡ Ok st = ap (λ (a : After). a.answer) same in
    let state : record { shape = s; forward = 0 } ≡ st = cc in
    let contents : map (times s.axes) xs ≡ ys = ap (λ (a : After). a.table) same in
    rw (← state, ← contents) (unfold loaded scaled in (unload_loaded s xs (rated_opens s xs passed) (rated_passes s xs passed)))

-- ---- unload, then load

-- What is left passed is what the verdict was.
left_passed : (xs : List ℤ) (v : Verdict) (res ys : List ℤ) → left_by xs v res ≡ left (Ok tt) ys → v ≡ Ok tt
left_passed xs (Ok _) res ys e = refl
left_passed xs (Err r) res ys e = ap (λ (l : Left). l.verdict) e

module _ (st : State) (xs : List ℤ) where
  pub record Unloads : Type 0 where
    pub state : check_state st (length xs) ≡ Ok tt
    pub sampled : check_sampled st ≡ Ok tt
    pub scaled : all (scaled_at st.shape.axes xs) (length xs) ≡ true

  unloads : (ys : List ℤ) → unload st xs ≡ left (Ok tt) ys → Unloads
  unfolding unload
  unloads ys e =
      let state = check_state st (length xs) in
      let accepts = all (scaled_at st.shape.axes xs) (length xs) in
      let passed = left_passed xs (state and_then check_sampled st and_then unless accepts Contents) (map (quotient st.shape.axes) xs) ys e in
      let rest = next_passed state (check_sampled st and_then unless accepts Contents) passed in
      record {
        state = first_passed state (check_sampled st and_then unless accepts Contents) passed;
        sampled = first_passed (check_sampled st) (unless accepts Contents) rest;
        scaled = test_passed accepts Contents (next_passed (check_sampled st) (unless accepts Contents) rest);
      }

  module _ (u : Unloads) where
    stands : Stands st (length xs)
    stands = state_passed st (length xs) u.state

    opens : Opens st.shape (map (quotient st.shape.axes) xs)
    opens = record { range = stands.range; long = length-map xs (quotient st.shape.axes) ∙ stands.long }

    no_forward : st.forward ≡ 0
    unfolding check_sampled
    no_forward = no_axis_lem st.forward st.shape.axes (axes_passed true StillForward st u.sampled) stands.few

    value_parts : (p : ℕ) → p < length xs →
        let z = value_at xs (suc p) in (nat_abs z % 2 ^ st.shape.axes ≡ 0) × (is_rate (quotient st.shape.axes z) ≡ true)
    unfolding scaled_at
    value_parts p h =
        scaled_parts st.shape.axes (value_at xs (suc p)) (all_at (scaled_at st.shape.axes xs) (length xs) u.scaled p h)

    rates : Passes (rate_at (map (quotient st.shape.axes) xs)) (length (map (quotient st.shape.axes) xs))
    unfolding rate_at
    rates p h =
        ap is_rate (value_mapped (quotient st.shape.axes) xs (quotient_zero st.shape.axes) (suc p))
        ∙ (value_parts p (omega (arith, length-map xs (quotient st.shape.axes)))).1

    back : map (times st.shape.axes) (map (quotient st.shape.axes) xs) ≡ xs
    back =
        map_back (times st.shape.axes) (quotient st.shape.axes) xs
        (λ p h. times_quotient st.shape.axes (get_or xs p (pos 0)) (rw (value_suc xs p) at (value_parts p h).0))

pub unload_load : (st : State) (xs ys : List ℤ) → unload st xs ≡ left (Ok tt) ys → load st.shape ys ≡ after (Ok st) xs
unload_load st xs ys e =
    let u = unloads st xs ys e in
    let d = st.shape.axes in
    let contents : map (quotient d) xs ≡ ys =
    ap (λ (l : Left). l.table) (sym (unload_done st xs u.state u.sampled u.scaled) ∙ e) in
    rw (← contents)
    (load_done st.shape (map (quotient d) xs) (rated_pass st.shape (map (quotient d) xs) (opens st xs u) (rates st xs u))
    ∙ ap₂ (λ (n : ℕ) (zs : List ℤ). after (Ok (record { shape = st.shape; forward = n })) zs) (sym (no_forward st xs u)) (back st xs u))
