-- Single steps of one axis, down by number, are a legal order of work. When the step of a point comes, its parents, whose numbers are smaller or which do not
-- move, hold what they held, so the step is ready, and the theorem on orders of work says what the table then holds. Before it: what a table with two halves
-- and a table after a store hold, and that the result of a back turn at a point is its value plus half the sum of the result at its parents.
-- Assumes nothing.
use mathlib.Core.Path.{◌≡◌, refl, ap, sym, ◌∙◌, fun_ext}
use mathlib.Core.Logic.{◌⊎◌, inl, inr, ⊎_elim}
use mathlib.Core.List.{List, [], ◌∷◌}
use Prim.Native.Nat.{ℕ, zero, suc, ◌≤◌, ◌<◌}
use native.Mathlib.Nat.{suc_inj}
use native.Mathlib.Omega.{arith}
use lib.Dec.{leb}
use lib.IntN.{ℤ, pos, ◌+ℤ◌, -ℤ-+ℤ_cancel}
use lib.ListN.{length, set}
use lib.Seq.{get_or-set_same, get_or-set_other}
use borrow.Author.Tests.{le-leb, lt-leb}
use Rattle.std.specs.Prelude.{if◌then◌else◌}
use Rattle.naturals.proofs.Cases.{eq_or_not, le_or_lt}
use Rattle.integers.specs.Half.{half}
use Rattle.numbering.specs.declared.Side.TheVariants.{Left, Right}
use Rattle.hierarchy.specs.Grid.{Neighbours, Still, Late, Grid}
use Rattle.hierarchy.specs.Turns.{value_at, values_of, sum_on, forward, backward}
use Rattle.hierarchy.specs.Work.{put, Item, Ready, all_worked, counts_after, Legal, mixed}
use Rattle.hierarchy.proofs.Inverse.{forward_is, forward_zero, forward_of_back}
use Rattle.hierarchy.proofs.Values.{value_zero, value_suc, values_of_value}
use Rattle.hierarchy.proofs.Work.{put_same, put_other, Stages, Holds, order_of_work}

-- ---- a table with two halves

pub mixed_low : (k : ℕ) (f g : ℕ → ℤ) (p : ℕ) → p ≤ k → mixed k f g p ≡ f p
unfolding mixed
mixed_low k f g p h = rw (le-leb p k h)

pub mixed_high : (k : ℕ) (f g : ℕ → ℤ) (p : ℕ) → k < p → mixed k f g p ≡ g p
unfolding mixed
mixed_high k f g p h = rw (lt-leb p k h)

-- A store into the list is a value put at a code.
pub value_set : (xs : List ℤ) (k : ℕ) (v : ℤ) → k < length xs → value_at (set xs k v) ≡ put (value_at xs) (suc k) v
value_set xs k v h = fun_ext at_code
  where
    at_code : (p : ℕ) → value_at (set xs k v) p ≡ put (value_at xs) (suc k) v p
    at_code zero = value_zero (set xs k v) ∙ sym (put_other (value_at xs) (suc k) v 0 (λ e. omega arith) ∙ value_zero xs)
    at_code (suc p) =
        eq_or_not p k
        (λ e.
        value_suc (set xs k v) p
        ∙ rw e (get_or-set_same xs k v (pos 0) h ∙ sym (put_same (value_at xs) (suc k) v)))
        (λ ne.
        value_suc (set xs k v) p
        ∙ get_or-set_other xs k p v (pos 0) ne
        ∙ sym (put_other (value_at xs) (suc k) v (suc p) (λ e. ne (suc_inj e)) ∙ value_suc xs p))

-- A list is known by what it holds at every code.
pub list_of_values : (m : ℕ) (xs : List ℤ) (f : ℕ → ℤ) → length xs ≡ m → ((p : ℕ) → value_at xs p ≡ f p) → xs ≡ values_of m f
list_of_values m xs f len holds = sym (values_of_value m xs len) ∙ ap (values_of m) (fun_ext holds)

-- ---- back

-- The result at a point is its value plus half the sum of the result at its parents.
pub result_at : (m : ℕ) (nb : Neighbours) (depth : ℕ → ℕ → ℕ) → Grid m nb depth → (t k : ℕ) → ((p : ℕ) → depth t p < k) → (x : ℕ → ℤ) → x 0 ≡ pos 0 →
    (p : ℕ) → backward nb k t x p ≡ x p +ℤ half (sum_on nb t (backward nb k t x) p)
unfolding sum_on
result_at m nb depth grid t k shallow x z p =
    sym
    (ap (λ (v : ℤ). v +ℤ half (backward nb k t x (nb t Left p) +ℤ backward nb k t x (nb t Right p)))
    (sym (forward_of_back m nb depth grid t k x z p (shallow p)) ∙ forward_is m nb depth grid t (backward nb k t x) p)
    ∙ -ℤ-+ℤ_cancel (backward nb k t x p) (half (backward nb k t x (nb t Left p) +ℤ backward nb k t x (nb t Right p))))

-- ---- forward, from the last point down, on an axis of a grid where a parent has a smaller number or does not move

module _ (m : ℕ) (nb : Neighbours) (depth : ℕ → ℕ → ℕ) (grid : Grid m nb depth) (t : ℕ) (late : Late nb t) where
  -- The tables after each turn of the axis.
  unfoldable pub turns : (ℕ → ℤ) → ℕ → ℕ → ℤ
  turns f zero = f
  turns f (suc k) = forward nb t (turns f k)

  turns_zero : (f : ℕ → ℤ) → f 0 ≡ pos 0 → (k : ℕ) → turns f k 0 ≡ pos 0
  unfolding turns
  turns_zero f z zero = z
  turns_zero f z (suc k) = forward_zero m nb depth grid t (turns f k) (turns_zero f z k)

  unfoldable pub one_axis : ℕ → ℕ
  one_axis k = t

  stages : (f : ℕ → ℤ) → f 0 ≡ pos 0 → Stages nb one_axis (turns f)
  unfolding turns one_axis
  stages f z = record { next = λ k p. refl; border = turns_zero f z }

  -- Points above k and up to `from` are turned.
  unfoldable pub done : ℕ → ℕ → ℕ → ℕ
  done from k p = if leb p k then 0 else (if leb p from then 1 else 0)

  not_done : (from k p : ℕ) → p ≤ k → done from k p ≡ 0
  unfolding done
  not_done from k p h = rw (le-leb p k h)

  is_done : (from k p : ℕ) → k < p → p ≤ from → done from k p ≡ 1
  unfolding done
  is_done from k p h le = rw (lt-leb p k h, le-leb p from le)

  beyond_done : (from k p : ℕ) → k < p → from < p → done from k p ≡ 0
  unfolding done
  beyond_done from k p h gt = rw (lt-leb p k h, lt-leb p from gt)

  -- The next point down is ready.
  ready : (from k : ℕ) → Ready nb one_axis (record { stage = 0; point = suc k }) (done from (suc k))
  unfolding one_axis
  ready from k =
      record {
        point = not_done from (suc k) (suc k) (omega arith);
        parents =
            λ b.
            eq_or_not (nb t b (suc k)) 0
            (λ e. inl e)
            (λ ne.
            inr
            (⊎_elim
            (λ less. inl (not_done from (suc k) (nb t b (suc k)) (omega arith)))
            (λ still. either (nb t b (suc k)) still)
            (late b (suc k) ne)));
      }
    where
      -- A neighbour that does not move may be done or not.
      either : (q : ℕ) → Still nb t q → (done from (suc k) q ≡ 0) ⊎ ((done from (suc k) q ≡ 1) × Still nb t q)
      either q still =
          le_or_lt q (suc k)
          (λ low. inl (not_done from (suc k) q low))
          (λ high.
          le_or_lt q from
          (λ in_range. inr (is_done from (suc k) q high in_range, still))
          (λ past. inl (beyond_done from (suc k) q high past)))

  done_put : (from k : ℕ) → suc k ≤ from → (p : ℕ) → put (done from (suc k)) (suc k) 1 p ≡ done from k p
  done_put from k le p =
      eq_or_not p (suc k)
      (λ e. rw e (put_same (done from (suc k)) (suc k) 1 ∙ sym (is_done from k (suc k) (omega arith) le)))
      (λ ne.
      put_other (done from (suc k)) (suc k) 1 p ne
      ∙ le_or_lt p k
      (λ low. not_done from (suc k) p (omega arith) ∙ sym (not_done from k p low))
      (λ high.
      le_or_lt p from
      (λ in_range. is_done from (suc k) p (omega arith) in_range ∙ sym (is_done from k p high in_range))
      (λ past. beyond_done from (suc k) p (omega arith) past ∙ sym (beyond_done from k p high past))))

  -- The steps of the first k points, from the last down, and that this order is legal.
  unfoldable pub down_from : ℕ → List Item
  down_from zero = []
  down_from (suc k) = record { stage = 0; point = suc k } ∷ down_from k

  pub down_legal : (from k : ℕ) → k ≤ from → Legal nb one_axis (down_from k) (done from k)
  unfolding down_from
  down_legal from zero h = tt
  down_legal from (suc k) h = (ready from k, rw (fun_ext (done_put from k h)) (down_legal from k (omega arith)))

  -- So the theorem on orders of work says what the table holds after them.
  pub swept_in_order : (f : ℕ → ℤ) (from : ℕ) → f 0 ≡ pos 0 →
      Holds nb one_axis (turns f) (counts_after nb one_axis (down_from from) (done from from)) (all_worked nb one_axis (down_from from) f)
  unfolding turns
  swept_in_order f from z =
      order_of_work nb one_axis (turns f) (stages f z) (down_from from) (done from from) f (down_legal from from (omega arith))
      (λ p.
      ap (λ (j : ℕ). turns f j p)
      (sym (le_or_lt p from (λ low. not_done from from p low) (λ high. beyond_done from from p high high))))
