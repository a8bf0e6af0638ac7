-- Bytes put piece by piece are the pieces put one after the other, so a line or a file is proved by its parts; and what is put at the front of a buffer with
-- room for it stands there, with the rest of the buffer behind it.
-- Assumes nothing.
use mathlib.Core.Path.{◌≡◌, refl, sym, ap, ◌∙◌}
use mathlib.Core.List.{List, [], ◌∷◌, ◌++◌, append-nil}
use Prim.Native.Nat.{ℕ, zero, suc, ◌+◌, ◌-◌, ◌≤◌}
use native.Mathlib.Omega.{arith}
use lib.ListN.{length, take, drop, set, length-append, length-drop, drop_of_length-le}
use lib.Seq.{take_all, sets, length-sets, sets-eq, take-append_seam}
use Rattle.buffers.specs.Put.{Put}

sets_append : (a b old : List ℕ) (i : ℕ) → sets old i (a ++ b) ≡ sets (sets old i a) (i + length a) b
sets_append [] b old i = ap (λ (k : ℕ). sets old k b) (omega arith)
sets_append (x ∷ a) b old i =
    let e : suc i + length a ≡ i + suc (length a) = omega arith in
    sets_append a b (set old i x) (suc i) ∙ ap (λ (k : ℕ). sets (sets (set old i x) (suc i) a) k b) e

-- One piece after another.
pub put_then : {a b old mid new : List ℕ} {i m r : ℕ} → Put a old i mid m → Put b mid m new r → Put (a ++ b) old i new r
put_then {a} {b} {old} {mid} {new} {i} {m} {r} p q =
    record {
      after = omega (arith, p.after, q.after, length-append a b);
      holds = q.holds ∙ ap (λ (l : List ℕ). sets l m b) p.holds ∙ ap (λ (k : ℕ). sets (sets old i a) k b) p.after ∙ sym (sets_append a b old i);
    }

-- A piece put at the front of the part of a buffer that lies behind others.
sets_suc : (a xs : List ℕ) (x i : ℕ) → sets (x ∷ xs) (suc i) a ≡ x ∷ sets xs i a
sets_suc [] xs x i = refl
sets_suc (y ∷ a) xs x i = sets_suc a (set xs i y) x (suc i)

sets_drop : (a xs : List ℕ) (i : ℕ) → i ≤ length xs → take i xs ++ sets (drop i xs) 0 a ≡ sets xs i a
sets_drop a xs zero h = refl
sets_drop a [] (suc i) h = absurd (omega arith)
sets_drop a (x ∷ xs) (suc i) h = ap (λ (l : List ℕ). x ∷ l) (sets_drop a xs i (omega arith)) ∙ sym (sets_suc a xs x i)

-- The elements of a buffer from one on, as they are lent, and what is left past them.
module _ (xs : List ℕ) (m : ℕ) where
  abbrev pub behind : List ℕ
  behind = take (length xs - m) (drop m xs)

  abbrev pub past : List ℕ
  past = drop (length xs - m) (drop m xs)

  all_behind : behind ≡ drop m xs
  all_behind = take_all (length xs - m) (drop m xs) (omega (arith, length-drop m xs))

  none_past : past ≡ []
  none_past = drop_of_length-le (drop m xs) (omega (arith, length-drop m xs))

  pub length_behind : length behind ≡ length xs - m
  length_behind = ap length all_behind ∙ length-drop m xs

-- One piece after another, where the second is put into what the first left behind it.
pub put_behind : {a b old mid new : List ℕ} {m r : ℕ} → Put a old 0 mid m → m ≤ length mid → Put b (behind mid m) 0 new r →
    Put (a ++ b) old 0 (take m mid ++ (new ++ past mid m)) (m + r)
put_behind {a} {b} {old} {mid} {new} {m} {r} p within q =
    put_then p
    (record {
      after = omega (arith, q.after);
      holds =
          ap (λ (l : List ℕ). take m mid ++ (new ++ l)) (none_past mid m)
          ∙ ap (λ (l : List ℕ). take m mid ++ l) (append-nil new ∙ q.holds ∙ ap (λ (l : List ℕ). sets l 0 b) (all_behind mid m))
          ∙ sets_drop b mid m within;
    })

-- Nothing put.
pub put_nothing : (old : List ℕ) (i : ℕ) → Put [] old i old i
put_nothing old i = record { after = omega arith; holds = refl }

-- One byte stored.
pub put_one : (old : List ℕ) (i x : ℕ) → Put (x ∷ []) old i (set old i x) (i + 1)
put_one old i x = record { after = omega arith; holds = refl }

-- The buffer keeps its length.
pub put_length : {a old new : List ℕ} {i r : ℕ} → Put a old i new r → length new ≡ length old
put_length {a} {old} {new} {i} p = ap length p.holds ∙ length-sets old i a

-- The piece by another name.
pub put_as : {a b old new : List ℕ} {i r : ℕ} → a ≡ b → Put a old i new r → Put b old i new r
put_as {a} {b} {old} {new} {i} {r} e p = rw (sym e) p

-- A buffer that was filled from its first place on.
pub put_over : {a old new : List ℕ} {r : ℕ} → Put a old 0 new r → length a ≤ length old → new ≡ a ++ drop (length a) old
put_over {a} {old} {new} p fits =
    let z : 0 + length a ≡ length a = omega arith in p.holds ∙ sets-eq a old 0 (omega arith) ∙ ap (λ (k : ℕ). a ++ drop k old) z

pub put_front : {a old new : List ℕ} {r : ℕ} → Put a old 0 new r → length a ≤ length old → take r new ≡ a
put_front {a} {old} {new} {r} p fits =
    let n : r ≡ length a = omega (arith, p.after) in rw (put_over p fits, n) (take-append_seam a (drop (length a) old))
