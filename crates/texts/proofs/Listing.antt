-- The lines of the points put one after the other: what the loop of `put_points` keeps.
-- Assumes nothing.
use mathlib.Core.Path.{◌≡◌, sym, ap, ◌∙◌}
use mathlib.Core.List.{List, [], ◌∷◌, ◌++◌, append_assoc, append-nil}
use Prim.Native.Nat.{ℕ, suc, ◌+◌, ◌*◌, ◌≤◌, ◌<◌}
use native.Mathlib.Numerals.{add-one}
use native.Mathlib.Omega.{arith}
use lib.IntN.{ℤ, pos}
use lib.ListN.{length, take, get_or, length-append}
use lib.Seq.{take-suc, take_all, length-take-le}
use Rattle.refusals.specs.declared.Refusal.{Refusal}
use Rattle.refusals.specs.Refusals.{number_of}
use Rattle.texts.specs.Text.{heading_of, point_line, point_lines, refused_line}
use Rattle.buffers.specs.Put.{Put}
use Rattle.texts.proofs.Decimals.{decimal_length, signed_length}
use Rattle.buffers.proofs.Puts.{behind, past, put_behind, put_as, put_nothing}

-- One line more.
lines_snoc : (vs : List ℤ) (v : ℤ) (p : ℕ) → point_lines p (vs ++ (v ∷ [])) ≡ point_lines p vs ++ point_line (p + length vs) v
unfolding point_lines
lines_snoc [] v p =
    let e : p + 0 ≡ p = omega arith in
    append-nil (point_line p v) ∙ ap (λ (k : ℕ). point_line k v) (sym e)
lines_snoc (w ∷ vs) v p =
    let e : suc p + length vs ≡ p + suc (length vs) = omega arith in
    ap (λ (l : List ℕ). point_line p w ++ l) (lines_snoc vs v (suc p) ∙ ap (λ (k : ℕ). point_lines (suc p) vs ++ point_line k v) e)
    ∙ sym (append_assoc (point_line p w) (point_lines (suc p) vs) (point_line (p + suc (length vs)) v))

line_length : (p : ℕ) (v : ℤ) → length (point_line p v) ≤ 43
unfolding point_line
line_length p v =
    simp length-append (omega (arith, decimal_length p, signed_length v))

pub lines_length : (vs : List ℤ) (p : ℕ) → length (point_lines p vs) ≤ 43 * length vs
unfolding point_lines
lines_length [] p = omega arith
lines_length (v ∷ vs) p = omega (arith, length-append (point_line p v) (point_lines (suc p) vs), line_length p v, lines_length vs (suc p))

-- The lines of the points below p have been put.
pub record Listed (table : List ℤ) (old new : List ℕ) (end p : ℕ) : Type 0 where
  pub within : p ≤ length table
  pub listed : Put (point_lines 0 (take p table)) old 0 new end
  pub most : end ≤ 43 * p

module _ {table : List ℤ} {old : List ℕ} where
  pub listed_starts : Listed table old old 0 0
  unfolding point_lines
  listed_starts = record { within = omega arith; listed = put_nothing old 0; most = omega arith }

  pub listed_steps : {mid new : List ℕ} {m r p : ℕ} → Listed table old mid m p → p < length table → m ≤ length mid
      → Put (point_line p (get_or table p (pos 0))) (behind mid m) 0 new r → m + r ≤ 43 * (p + 1)
      → Listed table old (take m mid ++ (new ++ past mid m)) (m + r) (p + 1)
  listed_steps {mid} {new} {m} {r} {p} h lt within put most =
      let z : 0 + length (take p table) ≡ p = omega (arith, length-take-le p table h.within) in
      let e : point_lines 0 (take p table) ++ point_line p (get_or table p (pos 0)) ≡ point_lines 0 (take (p + 1) table) =
      sym (rw (add-one, take-suc table p (pos 0) lt) (lines_snoc (take p table) (get_or table p (pos 0)) 0 ∙ ap (λ (k : ℕ). point_lines 0 (take p table) ++ point_line k (get_or table p (pos 0))) z)) in
      record { within = omega arith; listed = put_as e (put_behind h.listed within put); most = most }

  pub listed_ends : {new : List ℕ} {end p : ℕ} → Listed table old new end p → length table ≤ p → Put (point_lines 0 table) old 0 new end
  listed_ends {new} {end} {p} h le = put_as (ap (point_lines 0) (take_all p table le)) h.listed

pub heading_length : (d n count : ℕ) → length (heading_of d n count) ≤ 81
unfolding heading_of
heading_length d n count = simp length-append (omega (arith, decimal_length d, decimal_length n, decimal_length count))

pub refused_length : (r : Refusal) → length (refused_line r) ≤ 29
unfolding refused_line
refused_length r = simp length-append (omega (arith, decimal_length (number_of r)))
