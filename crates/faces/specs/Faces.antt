-- Faces of a table with values on the border (document 02, g), and their order. Each axis of a point has a mark: 0 inner, 1 lower border, 2 upper border. Points with
-- the same marks form a face, so a face is a function from an axis to a mark. Faces with fewer border axes come first; among those with as many, marks are compared
-- from the last axis down, the smaller first. For two axes: 00, then 10, 20, 01, 02, then 11, 21, 12, 22.
-- Assumes nothing.
use Rattle.std.specs.Prelude.{ℕ, zero, suc, ◌-◌, ◌+◌, ◌*◌, ◌^◌, eqb, if◌then◌else◌}
use Rattle.naturals.specs.Sum.{sum_to}
use Rattle.numbering.specs.Binomial.{choose}
use Rattle.numbering.specs.Inverse.{block}

-- How many faces of d axes have b border axes: C(d, b) choices of these, and on each of them the lower or the upper border.
unfoldable pub faces : ℕ → ℕ → ℕ
faces d b = 2 ^ b * choose d b

-- 1 for the mark of a border, 0 for that of an inner axis.
unfoldable pub bit : ℕ → ℕ
bit zero = 0
bit (suc a) = 1

unfoldable pub bordered : (ℕ → ℕ) → ℕ → ℕ
bordered m t = bit (m t)

-- How many of the first d axes are border axes.
unfoldable pub borders : (ℕ → ℕ) → ℕ → ℕ
borders m d = sum_to (bordered m) d

-- How many faces of k + 1 axes with b border axes have the mark a on the last axis: on the other k axes they are any face with b border axes, or with one less
-- where a is the mark of a border.
unfoldable pub having : ℕ → ℕ → ℕ → ℕ
having k b zero = faces k b
having k zero (suc a) = 0
having k (suc b) (suc a) = faces k b

-- How many faces of the first k axes come before m among those with as many border axes: first those with a smaller mark on the last axis, then those with the
-- same mark there that come before on the other axes.
unfoldable pub face_rank : (ℕ → ℕ) → ℕ → ℕ
face_rank m zero = zero
face_rank m (suc k) = face_rank m k + sum_to (having k (borders m (suc k))) (m k)

-- The mark on the last axis of the face of k + 1 axes with b border axes that r others come before.
unfoldable pub last_mark : ℕ → ℕ → ℕ → ℕ
last_mark k b r = block (having k b) 2 r

-- The mark on axis t of the face of k axes with b border axes that r others come before, read off from the last axis down; 0 past axis k.
unfoldable pub mark_of : ℕ → ℕ → ℕ → ℕ → ℕ
mark_of zero b r t = zero
mark_of (suc k) b r t =
    if eqb t k
    then last_mark k b r
    else mark_of k (b - bit (last_mark k b r)) (r - sum_to (having k b) (last_mark k b r)) t
