-- `Piece::split` meets its contract: the widest axis has a level to lose, and the parts lie in the grid.
-- Assumes nothing.
use Rattle.std.proofs.Common.{◌≡◌, refl, ap, ◌∙◌, ℕ, ◌+◌, ◌-◌, length, arith}
use Rattle.splits.specs.Splits.{cut}
use Rattle.component_order.proofs.Cutting.{is, small, some, low, away_left, away_right, middle_in, left_in, right_in, middle_is, half_is, away_widest}
use Rattle.component_order.proofs.Piece.split.Goals as goal

pub offset_bounds-self-r : goal.offset_bounds-self-r
offset_bounds-self-r c = omega (arith, small c.args.self.now.of c.requires _ c.widest_axis-r.ensures)

pub bounds-self-r : goal.bounds-self-r
bounds-self-r c = small c.args.self.now.of c.requires _ c.widest_axis-r.ensures

pub overflow_sub-level : goal.overflow_sub-level
overflow_sub-level c = some c.args.self.now.of c.requires _ c.widest_axis-r.ensures

pub offset_bounds-single-r : goal.offset_bounds-single-r
offset_bounds-single-r c = omega (arith, small c.args.self.now.of c.requires _ c.widest_axis-r.ensures)

pub bounds-single-r : goal.bounds-single-r
bounds-single-r c = small c.args.self.now.of c.requires _ c.widest_axis-r.ensures

pub offset_bounds-half-r : goal.offset_bounds-half-r
offset_bounds-half-r c = omega (arith, small c.args.self.now.of c.requires _ c.widest_axis-r.ensures)

pub bounds-half-r : goal.bounds-half-r
bounds-half-r c = small c.args.self.now.of c.requires _ c.widest_axis-r.ensures

pub overflow_shl-away : goal.overflow_shl-away
overflow_shl-away c = omega (arith, low c.args.self.now.of c.requires _ c.widest_axis-r.ensures)

pub offset_bounds-self-r-2 : goal.offset_bounds-self-r-2
offset_bounds-self-r-2 c = omega (arith, small c.args.self.now.of c.requires _ c.widest_axis-r.ensures)

pub bounds-self-r-2 : goal.bounds-self-r-2
bounds-self-r-2 c = small c.args.self.now.of c.requires _ c.widest_axis-r.ensures

pub overflow_mul-away : goal.overflow_mul-away
overflow_mul-away c = omega (arith, away_right c.args.self.now.of c.requires _ c.widest_axis-r.ensures)

pub overflow_sub-left : goal.overflow_sub-left
overflow_sub-left c = away_left c.args.self.now.of c.requires _ c.widest_axis-r.ensures

pub overflow_add-right : goal.overflow_add-right
overflow_add-right c = omega (arith, away_right c.args.self.now.of c.requires _ c.widest_axis-r.ensures)

pub invariant_of-middle : goal.invariant_of-middle
invariant_of-middle c = record { fits = middle_in c.args.self.now.of c.requires _ c.widest_axis-r.ensures (omega arith) }

pub invariant_of-left : goal.invariant_of-left
invariant_of-left c = record { fits = left_in c.args.self.now.of c.requires _ c.widest_axis-r.ensures (omega arith) }

pub invariant_of-right : goal.invariant_of-right
invariant_of-right c = record { fits = right_in c.args.self.now.of c.requires _ c.widest_axis-r.ensures (omega arith) }

pub returns : goal.returns
returns c =
    let b = c.args.self.now.of in
    let long : length b.levels ≡ 8 = omega arith in
    let same = c.widest_axis-r.ensures in
    let middle = middle_is b c.requires _ same long in
    let half = half_is b c.requires _ same long in
    let away = away_widest b c.requires _ same in
    let cut_is = c.cut_at-cut.ensures ∙ ap (cut c.args.self.now.from c.args.self.now.to) (is b c.requires _ same) in
    record {
      first = record { grid = refl; levels = middle; centre = refl; from = refl; to = cut_is };
      left = record { grid = refl; levels = half; centre = ap (λ (x : ℕ). b.centre - x) away; from = refl; to = refl };
      right = record { grid = refl; levels = half; centre = ap (λ (x : ℕ). b.centre + x) away; from = refl; to = refl };
      last = record { grid = refl; levels = middle; centre = refl; from = cut_is; to = refl };
    }
