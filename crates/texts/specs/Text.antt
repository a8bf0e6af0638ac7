-- The text that the program prints (document 01, "House file"): decimal numbers and lines. A character is its ASCII code.
-- Assumes nothing.
use Rattle.std.specs.Prelude.{codes, List, [], ◌∷◌, ◌++◌, ℕ, zero, suc, ◌+◌, ◌/◌, ◌%◌, ltb, ℤ, pos, negsuc, if◌then◌else◌}
use Rattle.refusals.specs.declared.Refusal.{Refusal}
use Rattle.refusals.specs.Refusals.{number_of}
use Rattle.shapes.specs.declared.Shape.{Shape}
use Rattle.shapes.specs.Shapes.{points_of}

-- A digit from 0 to 9.
abbrev pub digit : ℕ → ℕ
digit n = 48 + n

-- The decimal digits of a number, the highest first, none in front that is not needed. The first argument bounds how many there are.
unfoldable pub digits_of : ℕ → ℕ → List ℕ
digits_of zero n = []
digits_of (suc k) n = if ltb n 10 then digit n ∷ [] else digits_of k (n / 10) ++ (digit (n % 10) ∷ [])

-- A number of up to 64 bits has at most 20 digits.
unfoldable pub decimal : ℕ → List ℕ
decimal n = digits_of 20 n

-- A whole number: a minus sign before the digits where it is below zero.
unfoldable pub signed : ℤ → List ℕ
signed (pos n) = decimal n
signed (negsuc n) = 45 ∷ decimal (suc n)

abbrev pub space : List ℕ
space = codes " "

abbrev pub line_feed : List ℕ
line_feed = 10 ∷ []

abbrev pub axes_word : List ℕ
axes_word = codes "axes "

abbrev pub level_word : List ℕ
level_word = codes " level "

abbrev pub points_word : List ℕ
points_word = codes " points "

abbrev pub refused_word : List ℕ
refused_word = codes "refused "

-- A word, and a number.
abbrev pub named : List ℕ → ℕ → List ℕ
named word n = word ++ decimal n

-- The first line, of d, n and N.
unfoldable pub heading_of : ℕ → ℕ → ℕ → List ℕ
heading_of d n count = named axes_word d ++ named level_word n ++ named points_word count ++ line_feed

-- The first line of a shape.
abbrev pub heading : Shape → List ℕ
heading s = heading_of s.axes s.level (points_of s)

-- A line for a point: its number and its coefficient.
unfoldable pub point_line : ℕ → ℤ → List ℕ
point_line p v = decimal p ++ space ++ signed v ++ line_feed

-- A line for each coefficient, from point p on.
unfoldable pub point_lines : ℕ → List ℤ → List ℕ
point_lines p [] = []
point_lines p (v ∷ vs) = point_line p v ++ point_lines (suc p) vs

-- The one line of a refused file.
unfoldable pub refused_line : Refusal → List ℕ
refused_line r = named refused_word (number_of r) ++ line_feed
