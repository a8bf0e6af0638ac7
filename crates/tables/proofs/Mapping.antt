-- A loop that stores g of each value at its place, after p places: the value at hand is still what it was.
-- Assumes nothing.
use Rattle.std.proofs.Common.{◌≡◌, ℕ, ◌+◌, ◌-◌, ◌<◌, List, ◌++◌, map, length, get_or, take, drop, ℤ, pos, ap, ◌∙◌, arith, length-take-le}
use Rattle.std.proofs.lemmas.List.{get_or-append_right, get_or-drop}
use lib.ListN.{length-map}

pub next_value : (g : ℤ → ℤ) (xs ys : List ℤ) (p : ℕ) → p < length xs → ys ≡ map g (take p xs) ++ drop p xs → get_or ys p (pos 0) ≡ get_or xs p (pos 0)
next_value g xs ys p h holds =
    let front : length (map g (take p xs)) ≡ p = length-map (take p xs) g ∙ length-take-le p xs (omega arith) in
    let here : p + (p - p) ≡ p = omega arith in
    ap (λ (l : List ℤ). get_or l p (pos 0)) holds
    ∙ get_or-append_right (map g (take p xs)) (drop p xs) p p (pos 0) front (omega arith)
    ∙ get_or-drop p xs (p - p) (pos 0)
    ∙ ap (λ (n : ℕ). get_or xs n (pos 0)) here
