-- The starred lines of document 01, "Worked tables", with the cases of document 02, b), at the coordinates of e), of g) and of h): a sort of example for each sort
-- of line, what it says, and the list of them.
-- Assumes nothing.
use Rattle.std.specs.Prelude.{◌≡◌, List, [], ◌∷◌, map, ℕ, ℤ, pos, negsuc, replicate, Ok, Err}
use Rattle.refusals.specs.declared.Refusal.TheVariants.{TooManyPoints}
use Rattle.shapes.specs.declared.Shape.{Shape}
use Rattle.shapes.specs.Shapes.{sparse, with_border, points_of, counted}
use Rattle.numbers.specs.Numbers.{number_of_point}
use Rattle.states.specs.After.{left}
use Rattle.tables.specs.Tables.{adopted, adopt}
use Rattle.whole.specs.Whole.{rates_to_coefficients}
use Rattle.estimates.specs.Estimates.{estimate as estimate_of}

pub data Example : Type 0 where
  -- a shape has this many points
  count : Shape → ℕ → Example
  -- a shape is refused as too large, and its formula gives this many points
  too_large : Shape → ℕ → Example
  -- in a shape, the point of these marks, levels and indices has this number
  number : Shape → List ℕ → List ℕ → List ℕ → ℕ → Example
  -- rates of a shape have these coefficients
  coefficients : Shape → List ℤ → List ℤ → Example
  -- coefficients of a shape, adopted, have this estimate at these coordinates
  estimate : Shape → List ℤ → List ℕ → ℤ → Example

-- What an example says: the call's definition gives the value.
abbrev pub Holds : Example → Type 0
Holds (count s n) = counted s ≡ Ok n
Holds (too_large s n) = (counted s ≡ Err TooManyPoints) × (points_of s ≡ n)
Holds (number s ms ls is k) = number_of_point s ms ls is ≡ Ok k
Holds (coefficients s rates xs) = rates_to_coefficients s rates ≡ left (Ok tt) xs
Holds (estimate s xs x v) = (adopt s xs ≡ Ok (adopted s)) × (estimate_of (adopted s) xs x ≡ Ok v)

-- All examples of a list hold.
abbrev pub AllHold : List Example → Type 0
AllHold [] = Unit {0}
AllHold (e ∷ es) = Holds e × AllHold es

-- Of two axes with values on the border and one point inside: its rates lie on a square of three by three, and an eighth and three quarters of the way along the axes
-- the surface is straight between four of them.
abbrev pub nine_coefficients : List ℤ
nine_coefficients = pos 21 ∷ negsuc 11 ∷ negsuc 5 ∷ negsuc 11 ∷ negsuc 25 ∷ pos 16 ∷ pos 32 ∷ pos 24 ∷ pos 36 ∷ []

abbrev pub examples : List Example
examples =
    count (sparse 1 0) 1
    ∷ count (sparse 2 2) 17
    ∷ count (sparse 3 2) 31
    ∷ number (sparse 2 3) (0 ∷ 0 ∷ []) (1 ∷ 2 ∷ []) (3 ∷ 1 ∷ []) 34
    ∷ coefficients (sparse 1 1) (pos 3 ∷ pos 5 ∷ pos 7 ∷ []) (pos 6 ∷ pos 7 ∷ pos 11 ∷ [])
    ∷ coefficients (sparse 1 0) (negsuc 0 ∷ []) (negsuc 1 ∷ [])
    ∷ coefficients (sparse 2 1) (pos 4 ∷ pos 3 ∷ pos 5 ∷ pos 2 ∷ pos 6 ∷ []) (pos 16 ∷ pos 4 ∷ pos 12 ∷ pos 0 ∷ pos 16 ∷ [])
    ∷ coefficients (sparse 2 2) (replicate 17 (pos 1))
    (map pos (4 ∷ 2 ∷ 2 ∷ 2 ∷ 2 ∷ 2 ∷ 0 ∷ 0 ∷ 2 ∷ 1 ∷ 1 ∷ 1 ∷ 1 ∷ 2 ∷ 0 ∷ 0 ∷ 2 ∷ []))
    ∷ estimate (sparse 1 1) (pos 6 ∷ pos 7 ∷ pos 11 ∷ []) (262144 ∷ []) (pos 10)
    ∷ estimate (sparse 1 1) (pos 6 ∷ pos 7 ∷ pos 11 ∷ []) (131072 ∷ []) (pos 5)
    ∷ estimate (sparse 1 1) (pos 6 ∷ pos 7 ∷ pos 11 ∷ []) (0 ∷ []) (pos 0)
    ∷ estimate (sparse 1 1) (pos 6 ∷ pos 7 ∷ pos 11 ∷ []) (1 ∷ []) (pos 0)
    ∷ estimate (sparse 1 1) (negsuc 5 ∷ negsuc 6 ∷ negsuc 10 ∷ []) (1 ∷ []) (pos 0)
    ∷ estimate (sparse 1 0) (pos 1 ∷ []) (262144 ∷ []) (pos 1)
    ∷ estimate (sparse 1 0) (negsuc 0 ∷ []) (262144 ∷ []) (negsuc 0)
    ∷ count (with_border 1 1) 5
    ∷ count (with_border 3 3) 593
    ∷ number (with_border 2 0) (1 ∷ 0 ∷ []) (0 ∷ 0 ∷ []) (1 ∷ 1 ∷ []) 1
    ∷ number (with_border 2 0) (0 ∷ 1 ∷ []) (0 ∷ 0 ∷ []) (1 ∷ 1 ∷ []) 3
    ∷ number (with_border 2 0) (2 ∷ 2 ∷ []) (0 ∷ 0 ∷ []) (1 ∷ 1 ∷ []) 8
    ∷ coefficients (with_border 1 1) (pos 3 ∷ pos 5 ∷ pos 7 ∷ pos 1 ∷ pos 9 ∷ []) (negsuc 3 ∷ pos 6 ∷ pos 2 ∷ pos 2 ∷ pos 18 ∷ [])
    ∷ estimate (with_border 1 1) (negsuc 3 ∷ pos 6 ∷ pos 2 ∷ pos 2 ∷ pos 18 ∷ []) (0 ∷ []) (pos 2)
    ∷ estimate (with_border 1 1) (negsuc 3 ∷ pos 6 ∷ pos 2 ∷ pos 2 ∷ pos 18 ∷ []) (131072 ∷ []) (pos 6)
    ∷ estimate (with_border 1 1) (negsuc 3 ∷ pos 6 ∷ pos 2 ∷ pos 2 ∷ pos 18 ∷ []) (1048576 ∷ []) (pos 18)
    ∷ coefficients (with_border 2 0) (map pos (5 ∷ 2 ∷ 7 ∷ 3 ∷ 1 ∷ 4 ∷ 8 ∷ 6 ∷ 9 ∷ [])) nine_coefficients
    ∷ estimate (with_border 2 0) nine_coefficients (131072 ∷ 786432 ∷ []) (pos 15)
    ∷ count (sparse 1 8) 511
    ∷ count (sparse 2 8) 4097
    ∷ count (sparse 3 8) 18943
    ∷ count (sparse 4 7) 23297
    ∷ too_large (sparse 4 8) 65537
    ∷ count (sparse 5 6) 18943
    ∷ too_large (sparse 5 7) 61183
    ∷ count (sparse 6 5) 10625
    ∷ too_large (sparse 6 6) 40193
    ∷ count (sparse 7 5) 18943
    ∷ too_large (sparse 7 6) 78079
    ∷ count (sparse 8 5) 31745
    ∷ too_large (sparse 8 6) 141569
    ∷ too_large (sparse 8 8) 2228225
    ∷ count (with_border 1 8) 513
    ∷ count (with_border 2 8) 6145
    ∷ count (with_border 3 7) 21249
    ∷ too_large (with_border 3 8) 49665
    ∷ count (with_border 4 5) 20481
    ∷ too_large (with_border 4 6) 52993
    ∷ []
