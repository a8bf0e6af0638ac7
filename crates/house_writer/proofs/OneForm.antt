-- Rewriting gives one form: two files give the same bytes just where they hold the same. The form is a house file that holds what the first did, is read as
-- the first is by every buffer, and rewritten again is itself. True since a file is written from what it holds alone, and what is written is read back.
-- Assumes nothing.
use Rattle.std.specs.Prelude.{Ok, Err}
use mathlib.Core.Path.{◌≡◌, refl, sym, ap, ap₂, ◌∙◌}
use mathlib.Core.List.{List, [], ◌++◌}
use Prim.Native.Nat.{ℕ, ◌+◌, ◌*◌, ◌≤◌}
use native.Mathlib.Omega.{arith}
use lib.IntN.{ℤ}
use lib.ListN.{length, take, drop}
use lib.Seq.{take_at}
use Rattle.refusals.specs.declared.Refusal.{Refusal}
use Rattle.house_numbers.specs.Reading.{Read, got, refused}
use Rattle.house_file.specs.Files.{Contents, read_contents, filled_with, read_file}
use Rattle.house_file.proofs.Accepting.{contents_accepted}
use Rattle.house_file.proofs.Undone.{file_back}
use Rattle.house_file.proofs.Deciding.{Agree, same, neither, contents_agree}
use Rattle.house_file.proofs.Parts.{accepted_parts, parts_read}
use Rattle.house_writer.specs.Writing.{after_writing, kept_out, put_file}
use Rattle.house_writer.specs.Rewriting.{form_of, written_again, rewrite_file}
use Rattle.house_writer.proofs.Putting.{Stands, stands_within, put_done, put_stands, put_refused}

module _ (places : ℕ) where
  -- ---- one file

  module _ (bytes : List ℕ) (c : Contents) (rest : List ℕ) (e : read_contents places bytes ≡ got c rest) where
    put_again : (out : List ℕ) → rewrite_file places bytes out ≡ put_file (form_of c) out
    unfolding rewrite_file
    put_again out = rw e

    -- An accepted file is rewritten to the form of what it holds.
    pub rewritten : (out : List ℕ) → length (form_of c) ≤ length out →
        rewrite_file places bytes out ≡ after_writing (Ok (length (form_of c))) (form_of c ++ drop (length (form_of c)) out)
    rewritten out room = put_again out ∙ put_done (form_of c) out room

    -- The form is a house file, and it holds the same.
    pub form_accepted : read_contents places (form_of c) ≡ got c []
    form_accepted =
        let a = contents_accepted places bytes c rest e in
        file_back c.shape a.plain c.rates places a.shaped a.rated.many (omega (arith, a.room, a.rated.many)) a.rated.each

    -- It is read as the file is, for every number of places.
    pub form_alike : (q : ℕ) → read_contents q (form_of c) ≡ read_contents q bytes
    form_alike q =
        parts_read (form_of c) c (accepted_parts (form_of c) c places [] form_accepted) q
        ∙ sym (parts_read bytes c (accepted_parts bytes c places rest e) q)

  -- ---- two files

  module _ (a b : List ℕ) (c e : Contents) (left right : List ℕ)
      (first : read_contents places a ≡ got c left) (second : read_contents places b ≡ got e right) where
    -- Files that hold the same are rewritten alike.
    pub same_meaning : c ≡ e → (out : List ℕ) → rewrite_file places a out ≡ rewrite_file places b out
    same_meaning is out = put_again a c left first out ∙ ap (λ (x : Contents). put_file (form_of x) out) is ∙ sym (put_again b e right second out)

    -- Files of one form hold the same.
    pub same_form : form_of c ≡ form_of e → c ≡ e
    same_form is =
        let both : got c [] ≡ got e [] =
        sym (form_accepted a c left first) ∙ ap (read_contents places) is ∙ form_accepted b e right second in
        cc

  -- ---- what an answer tells

  -- The first k bytes of what rewriting leaves: the form, where k is the answered length.
  abbrev pub the_form : List ℕ → List ℕ → ℕ → List ℕ
  the_form bytes out k = take k (rewrite_file places bytes out).out

  module _ (bytes out : List ℕ) where
    not_again : {r : Refusal} → read_contents places bytes ≡ refused r → rewrite_file places bytes out ≡ kept_out out r
    unfolding rewrite_file
    not_again e = rw e

    -- A refusal leaves every byte as it was.
    pub refused_stays : {r : Refusal} → (rewrite_file places bytes out).answer ≡ Err r → (rewrite_file places bytes out).out ≡ out
    refused_stays {r} e = so (read_contents places bytes) refl
      where
        so : (x : Read Contents) → read_contents places bytes ≡ x → (rewrite_file places bytes out).out ≡ out
        so (got c rest) is = let put = put_again bytes c rest is out in rw put (put_refused (form_of c) out (rw put at e))
        so (refused q) is = rw (not_again is)

  -- The file was accepted, and its form stands at the front of the buffer.
  pub record Rewrites (bytes out : List ℕ) (k : ℕ) : Type 0 where
    pub holds : Contents
    pub rest : List ℕ
    pub read : read_contents places bytes ≡ got holds rest
    pub form : Stands (form_of holds) out k (rewrite_file places bytes out).out

  module _ (bytes out : List ℕ) (k : ℕ) (e : (rewrite_file places bytes out).answer ≡ Ok k) where
    pub rewrites : Rewrites bytes out k
    rewrites = so (read_contents places bytes) refl
      where
        so : (x : Read Contents) → read_contents places bytes ≡ x → Rewrites bytes out k
        so (got c rest) is =
            let put = put_again bytes c rest is out in
            record { holds = c; rest = rest; read = is; form = rw put (put_stands (form_of c) out k (rw put at e)) }
        so (refused r) is =
            let never : Err r ≡ Ok k = rw (not_again bytes out is) at e in
            let z : ◌≡◌ {A = ℕ} 0 1 = cc in
            absurd (omega arith)

    -- The bytes after the form are what they were.
    pub past_stays : drop k (rewrite_file places bytes out).out ≡ drop k out
    past_stays = rewrites.form.past

    -- The form is within the buffer.
    pub form_within : (k ≤ length (rewrite_file places bytes out).out) × (k ≡ length (take k (rewrite_file places bytes out).out))
    form_within = stands_within rewrites.form

    -- The form is read as the file is, for every number of places.
    pub contents_the_same : (q : ℕ) → read_contents q (the_form bytes out k) ≡ read_contents q bytes
    contents_the_same q = let w = rewrites in rw w.form.front (form_alike bytes w.holds w.rest w.read q)

    pub file_the_same : (table : List ℤ) → read_file (the_form bytes out k) table ≡ read_file bytes table
    unfolding read_file
    file_the_same table = ap (filled_with table) (contents_the_same (length table))

    -- Rewriting again gives what rewriting once gives, in every buffer and for every number of places.
    pub again : (q : ℕ) (other : List ℕ) → rewrite_file q (the_form bytes out k) other ≡ rewrite_file q bytes other
    unfolding rewrite_file
    again q other = ap (written_again other) (contents_the_same q)

    -- So the form is rewritten to itself, and no byte of it changes.
    pub form_stays : (other : List ℕ) → k ≤ length other →
        rewrite_file places (the_form bytes out k) other ≡ after_writing (Ok k) (the_form bytes out k ++ drop k other)
    form_stays other room =
        let w = rewrites in
        let once = rewritten bytes w.holds w.rest w.read other (omega (arith, w.form.long)) in
        again places other
        ∙ once
        ∙ ap₂ (λ (n : ℕ) (f : List ℕ). after_writing (Ok n) (f ++ drop n other)) (sym w.form.long) (sym w.form.front)

    pub unchanged : (other : List ℕ) → k ≤ length other → take k (rewrite_file places (the_form bytes out k) other).out ≡ the_form bytes out k
    unchanged other room =
        let long : length (the_form bytes out k) ≡ k = ap length rewrites.form.front ∙ sym rewrites.form.long in
        rw (form_stays other room) (take_at (the_form bytes out k) (drop k other) k long)

  -- Files rewritten to the same bytes are read alike, for every number of places.
  pub same_bytes : (a b out other : List ℕ) (k m : ℕ) →
      (rewrite_file places a out).answer ≡ Ok k → (rewrite_file places b other).answer ≡ Ok m →
      the_form a out k ≡ the_form b other m → (q : ℕ) → read_contents q a ≡ read_contents q b
  same_bytes a b out other k m first second is q =
      sym (contents_the_same a out k first q) ∙ ap (read_contents q) is ∙ contents_the_same b other m second q

  -- ---- the first bytes decide

  written_same : (out : List ℕ) {cut whole : Read Contents} → Agree 0 cut whole → written_again out cut ≡ written_again out whole
  written_same out (same c j rest h e w) = rw (e, w)
  written_same out (neither r e w) = rw (e, w)

  pub first_bytes_enough : (bytes out : List ℕ) (j : ℕ) → 5 * places + 11 ≤ j → rewrite_file places (take j bytes) out ≡ rewrite_file places bytes out
  unfolding rewrite_file
  first_bytes_enough bytes out j h = written_same out (contents_agree places j h bytes)
