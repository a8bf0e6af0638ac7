-- The order of a split is legal and does the whole, if those of its parts are: the middle finds the axes before the cut due; then a half finds its neighbours in the
-- middle, which lie along the axis of the split, with exactly the axes before it done; then the middle, of which no neighbour lies in a half, finds the rest due.
-- Assumes nothing.
use mathlib.Core.Path.{◌≡◌, ◌∙◌}
use mathlib.Core.Logic.{◌⊎◌, inl, inr, ⊎_elim}
use mathlib.Core.List.{List, ◌++◌}
use Prim.Native.Nat.{ℕ, ◌≤◌, ◌<◌}
use native.Mathlib.Omega.{arith}
use Rattle.numbering.specs.declared.Side.{Side}
use Rattle.hierarchy.specs.Grid.{Neighbours}
use Rattle.hierarchy.specs.Work.{Item, counts_after, Legal}
use Rattle.splits.specs.Splits.{itself, cut, Split, Due, Done}
use Rattle.splits.proofs.Lists.{counts_append, legal_append}

-- The cut lies within the axes to do.
pub cut_low : (s t r : ℕ) → s ≤ t → s ≤ cut s t r
unfolding cut
cut_low s t r h = omega arith

pub cut_high : (s t r : ℕ) → cut s t r ≤ t
unfolding cut
cut_high s t r = omega arith

-- An axis to do that is r is the cut.
pub cut_at : (s t r : ℕ) → s ≤ r → r < t → cut s t r ≡ r
unfolding cut
cut_at s t r low high = omega arith

module _ (nb : Neighbours) (d : ℕ) where
  -- A list of steps is legal and does the axes up to t on a set of points.
  pub record Does (t : ℕ) (box : ℕ → Type 0) (count : ℕ → ℕ) (is : List Item) : Type 0 where
    pub legal : Legal nb itself is count
    pub done : Done nb d t box count (counts_after nb itself is count)

  module _ (r : ℕ) (whole middle left right : ℕ → Type 0) (split : Split nb d r whole middle left right) (dec_middle : (p : ℕ) → Dec (middle p))
      (s t : ℕ) (order : s ≤ t) (axes : t ≤ d) where
    -- A code that is in no part is not in the whole.
    outside : (q : ℕ) → (middle q → ⊥) → (left q → ⊥) → (right q → ⊥) → whole q → ⊥
    outside q no_middle no_left no_right h = ⊎_elim no_middle (⊎_elim no_left no_right) (split.parts q h)

    -- A neighbour that is none or has its count stays so where the count does.
    kept : (count after : ℕ → ℕ) (q a : ℕ) → after q ≡ count q → (q ≡ 0) ⊎ (count q ≡ a) → (q ≡ 0) ⊎ (after q ≡ a)
    kept count after q a same = ⊎_elim (λ none. inl none) (λ e. inr (same ∙ e))

    module _ (count : ℕ → ℕ) (due : Due nb d s t whole count) where
      pub middle_due : Due nb d s (cut s t r) middle count
      middle_due =
          record {
            own = λ p h. due.own p (split.middle_in p h);
            edge =
                λ a b p low high h out.
                let below : a < t = omega (arith, cut_high s t r) in
                due.edge a b p low below (split.middle_in p h)
                (outside (nb a b p) out (split.into_left a b p (omega arith) h) (split.into_right a b p (omega arith) h));
          }

      module _ (one : ℕ → ℕ) (first : Done nb d (cut s t r) middle count one) where
        pub left_due : Due nb d s t left one
        left_due =
            record {
              own = λ p h. first.rest p (λ m. split.middle_left p m h) ∙ due.own p (split.left_in p h);
              edge = λ a b p low high h out. at a b p low high h out (dec_middle (nb a b p));
            }
          where
            at : (a : ℕ) (b : Side) (p : ℕ) → s ≤ a → a < t → left p → (left (nb a b p) → ⊥) → Dec (middle (nb a b p)) →
                (nb a b p ≡ 0) ⊎ (one (nb a b p) ≡ a)
            at a b p low high h out (yes m) =
                let along : a ≡ r = split.left_along a b p (omega arith) h m in
                inr (omega (arith, first.own (nb a b p) m, cut_at s t r (omega arith) (omega arith)))
            at a b p low high h out (no m) =
                kept count one (nb a b p) a (first.rest (nb a b p) m)
                (due.edge a b p low high (split.left_in p h) (outside (nb a b p) m out (split.left_to_right a b p (omega arith) h)))

        module _ (two : ℕ → ℕ) (second : Done nb d t left one two) where
          pub right_due : Due nb d s t right two
          right_due =
              record {
                own =
                    λ p h.
                    second.rest p (λ l. split.left_right p l h)
                    ∙ first.rest p (λ m. split.middle_right p m h)
                    ∙ due.own p (split.right_in p h);
                edge = λ a b p low high h out. at a b p low high h out (dec_middle (nb a b p));
              }
            where
              at : (a : ℕ) (b : Side) (p : ℕ) → s ≤ a → a < t → right p → (right (nb a b p) → ⊥) → Dec (middle (nb a b p)) →
                  (nb a b p ≡ 0) ⊎ (two (nb a b p) ≡ a)
              at a b p low high h out (yes m) =
                  let along : a ≡ r = split.right_along a b p (omega arith) h m in
                  inr
                  (omega (
                    arith,
                    second.rest (nb a b p) (split.right_to_left a b p (omega arith) h),
                    first.own (nb a b p) m,
                    cut_at s t r (omega arith) (omega arith),
                  ))
              at a b p low high h out (no m) =
                  let no_left = split.right_to_left a b p (omega arith) h in
                  kept count two (nb a b p) a (second.rest (nb a b p) no_left ∙ first.rest (nb a b p) m)
                  (due.edge a b p low high (split.right_in p h) (outside (nb a b p) m no_left out))

          module _ (three : ℕ → ℕ) (third : Done nb d t right two three) where
            pub rest_due : Due nb d (cut s t r) t middle three
            rest_due =
                record {
                  own =
                      λ p h.
                      third.rest p (split.middle_right p h) ∙ second.rest p (split.middle_left p h) ∙ first.own p h;
                  edge =
                      λ a b p low high h out.
                      let no_left = split.into_left a b p (omega arith) h in
                      let no_right = split.into_right a b p (omega arith) h in
                      kept count three (nb a b p) a
                      (third.rest (nb a b p) no_right ∙ second.rest (nb a b p) no_left ∙ first.rest (nb a b p) out)
                      (due.edge a b p (omega (arith, cut_low s t r order)) high (split.middle_in p h) (outside (nb a b p) out no_left no_right));
                }

            module _ (four : ℕ → ℕ) (fourth : Done nb d t middle three four) where
              whole_done : Done nb d t whole count four
              whole_done =
                  record {
                    own = λ p h. each p (dec_middle p) (split.parts p h);
                    rest =
                        λ p out.
                        fourth.rest p (λ m. out (split.middle_in p m))
                        ∙ third.rest p (λ y. out (split.right_in p y))
                        ∙ second.rest p (λ x. out (split.left_in p x))
                        ∙ first.rest p (λ m. out (split.middle_in p m));
                  }
                where
                  each : (p : ℕ) → Dec (middle p) → middle p ⊎ left p ⊎ right p → four p ≡ t
                  each p (yes m) h = fourth.own p m
                  each p (no m) (inl h) = absurd (m h)
                  each p (no m) (inr (inl h)) =
                      fourth.rest p m ∙ third.rest p (λ y. split.left_right p h y) ∙ second.own p h
                  each p (no m) (inr (inr h)) = fourth.rest p m ∙ third.own p h

      -- The four parts in a row.
      pub split_does : (is js ks ls : List Item) →
          (Due nb d s (cut s t r) middle count → Does (cut s t r) middle count is) →
          ((one : ℕ → ℕ) → Due nb d s t left one → Does t left one js) →
          ((two : ℕ → ℕ) → Due nb d s t right two → Does t right two ks) →
          ((three : ℕ → ℕ) → Due nb d (cut s t r) t middle three → Does t middle three ls) →
          Does t whole count (is ++ (js ++ (ks ++ ls)))
      split_does is js ks ls first second third fourth =
          let one = counts_after nb itself is count in
          let two = counts_after nb itself js one in
          let three = counts_after nb itself ks two in
          let a = first middle_due in
          let b = second one (left_due one a.done) in
          let c = third two (right_due one a.done two b.done) in
          let e = fourth three (rest_due one a.done two b.done three c.done) in
          record {
            legal =
                legal_append nb itself is (js ++ (ks ++ ls)) count a.legal
                (legal_append nb itself js (ks ++ ls) one b.legal (legal_append nb itself ks ls two c.legal e.legal));
            done =
                rw (counts_append nb itself is, counts_append nb itself js, counts_append nb itself ks)
                (whole_done one a.done two b.done three c.done (counts_after nb itself ls three) e.done);
          }
