-- What an accepted file holds: a shape in range, as many rates as it has points, at most as many as there are places, each a rate, and nothing after them.
-- So no refusal 4 follows a file that was read. True since every number that can be filed gives a rate, and the definition reads nothing else.
-- Assumes nothing.
use Rattle.std.specs.Prelude.{Ok, Err}
use mathlib.Core.Path.{◌≡◌, refl, ap, ◌∙◌, sym}
use mathlib.Core.Bool.{true, false}
use mathlib.Core.List.{List, [], ◌∷◌}
use Prim.Native.Nat.{ℕ, zero, suc, ◌≤◌}
use native.Mathlib.Omega.{arith}
use lib.Dec.{leb}
use lib.IntN.{ℤ}
use lib.ListN.{length}
use borrow.Author.Tests.{leb-true}
use Rattle.refusals.specs.declared.Refusal.TheVariants.{TableLength, FiledNumber}
use Rattle.refusals.specs.Checks.{unless, Verdict}
use Rattle.refusals.proofs.Passing.{test_passed}
use Rattle.integers.specs.Half.{is_rate}
use Rattle.shapes.specs.declared.Shape.{Shape}
use Rattle.shapes.specs.Shapes.{sparse, check_shape, points_of}
use Rattle.house_numbers.specs.Reading.{Read, got, refused, ◌next◌, ◌then_read◌}
use Rattle.house_numbers.specs.Numbers.{groups, largest, limited, read_number, rate_of}
use Rattle.house_rates.specs.Rates.{prepended, read_rates, all_read}
use Rattle.house_rates.proofs.Rates.{nothing_left}
use Rattle.house_file.specs.Files.{read_head, Contents, ended, read_table, read_contents, named}
use Rattle.house_file.specs.Written.{AllRates}
use Rattle.house_numbers.proofs.Filing.{rate_filed}

-- What is read in two steps is read by the first and then by the second.
pub record Through {A B : Type 0} (x : Read A) (f : A → List ℕ → Read B) (y : Read B) : Type 0 where
  pub value : A
  pub middle : List ℕ
  pub first : x ≡ got value middle
  pub second : f value middle ≡ y

pub through : {A B : Type 0} (x : Read A) (f : A → List ℕ → Read B) {b : B} {rest : List ℕ} → x next f ≡ got b rest → Through x f (got b rest)
through (got a middle) f e = record { value = a; middle = middle; first = refl; second = e }
through (refused r) f e = let z : ◌≡◌ {A = ℕ} 0 1 = cc in absurd (omega arith)

passed_first : {A : Type 0} (v : Verdict) (x : Read A) {a : A} {rest : List ℕ} → v then_read x ≡ got a rest → v ≡ Ok tt
passed_first (Ok _) x e = refl
passed_first (Err r) x e = cc

read_next : {A : Type 0} (v : Verdict) (x : Read A) {a : A} {rest : List ℕ} → v then_read x ≡ got a rest → x ≡ got a rest
read_next (Ok _) x e = e
read_next (Err r) x e = cc

-- A number that is read is that of its groups, and is small enough.
module _ (bytes : List ℕ) (u : ℕ) (rest : List ℕ) (e : read_number bytes ≡ got u rest) where
  unlimited : Through (groups 5 bytes) limited (got u rest)
  unfolding read_number
  unlimited = through (groups 5 bytes) limited e

  test : Verdict
  test = unless (leb unlimited.value largest) FiledNumber

  gathered : Read ℕ
  gathered = got unlimited.value unlimited.middle

  tested : test then_read gathered ≡ got u rest
  unfolding limited test gathered
  tested = unlimited.second

  pub number_groups : groups 5 bytes ≡ got u rest
  unfolding gathered
  number_groups = unlimited.first ∙ read_next test gathered tested

  pub number_small : u ≤ largest
  unfolding test gathered
  number_small =
      let same : got unlimited.value unlimited.middle ≡ got u rest = read_next test gathered tested in
      let is : unlimited.value ≡ u = cc in
      omega (
        arith,
        is,
        leb-true unlimited.value largest (test_passed (leb unlimited.value largest) FiledNumber (passed_first test gathered tested)),
      )

pub record Rated (m : ℕ) (rates : List ℤ) : Type 0 where
  pub many : length rates ≡ m
  pub each : AllRates rates

none_rated : Rated 0 []
none_rated = record { many = refl; each = λ p h. absurd (omega arith) }

one_rated : (m : ℕ) (rate : ℤ) (rates : List ℤ) → is_rate rate ≡ true → Rated m rates → Rated (suc m) (rate ∷ rates)
one_rated m rate rates is rated = record { many = ap suc rated.many; each = each }
  where
    each : AllRates (rate ∷ rates)
    each zero h = is
    each (suc p) h = rated.each p (omega arith)

pub rates_rated : (m : ℕ) (bytes : List ℕ) (rates : List ℤ) (rest : List ℕ) → read_rates m bytes ≡ got rates rest → Rated m rates
unfolding read_rates prepended
rates_rated zero bytes rates rest e = let is : rates ≡ [] = cc in rw is none_rated
rates_rated (suc m) bytes rates rest e =
    let t = through (read_number bytes) _ e in
    let w = through (read_rates m t.middle) (prepended (rate_of t.value)) t.second in
    let one : got (rate_of t.value ∷ w.value) w.middle ≡ got rates rest = w.second in
    let is : rates ≡ rate_of t.value ∷ w.value = cc in
    rw is
    (one_rated m (rate_of t.value) w.value
    (rate_filed t.value (number_small bytes t.value t.middle t.first))
    (rates_rated m t.middle w.value w.middle w.first))

-- An accepted file in its parts: d and n, and after them the rates and nothing else.
pub record Whole (places : ℕ) (bytes : List ℕ) (s : Shape) (rates : List ℤ) (rest : List ℕ) : Type 0 where
  pub after : List ℕ
  pub head : read_head bytes ≡ got s after
  pub shaped : check_shape s ≡ Ok tt
  pub room : points_of s ≤ places
  pub filled : read_rates (points_of s) after ≡ got rates rest
  pub ends : length rest ≡ 0

-- What follows d and n, in its parts.
pub record Fitted (places : ℕ) (s : Shape) (after : List ℕ) (c : Contents) (rest : List ℕ) : Type 0 where
  pub same : s ≡ c.shape
  pub shaped : check_shape c.shape ≡ Ok tt
  pub room : points_of c.shape ≤ places
  pub filled : read_rates (points_of c.shape) after ≡ got c.rates rest
  pub ends : length rest ≡ 0

fitted : (places : ℕ) (s : Shape) (after : List ℕ) (rates : List ℤ) (middle : List ℕ) (c : Contents) (rest : List ℕ) →
    got (record { shape = s; rates = rates }) middle ≡ got c rest → Fitted places s after (record { shape = s; rates = rates }) middle →
    Fitted places s after c rest
fitted places s after rates middle c rest e f =
    let contents : c ≡ record { shape = s; rates = rates } = cc in
    let end : rest ≡ middle = cc in
    rw (contents, end) f

pub table_fitted : (places : ℕ) (s : Shape) (after : List ℕ) (c : Contents) (rest : List ℕ) → read_table places s after ≡ got c rest →
    Fitted places s after c rest
unfolding read_table ended
table_fitted places s after c rest e =
    let n = points_of s in
    let x = read_rates n after next ended s in
    let places_test = unless (leb n places) TableLength in
    let roomy = read_next (check_shape s) (places_test then_read x) e in
    let t = through (read_rates n after) (ended s) (read_next places_test x roomy) in
    let all : Read Contents = got (record { shape = s; rates = t.value }) t.middle in
    let same : all ≡ got c rest = read_next (all_read t.middle) all t.second in
    fitted places s after t.value t.middle c rest same
    (record {
      same = refl;
      shaped = passed_first (check_shape s) (places_test then_read x) e;
      room = leb-true n places (test_passed (leb n places) TableLength (passed_first places_test x roomy));
      filled = t.first;
      ends = nothing_left t.middle (passed_first (all_read t.middle) all t.second);
    })

pub contents_whole : (places : ℕ) (bytes : List ℕ) (c : Contents) (rest : List ℕ) → read_contents places bytes ≡ got c rest →
    Whole places bytes c.shape c.rates rest
unfolding read_contents
contents_whole places bytes c rest e =
    let h = through (read_head bytes) (read_table places) e in
    let f = table_fitted places h.value h.middle c rest h.second in
    record {
      after = h.middle;
      head = h.first ∙ ap (λ (s : Shape). got s h.middle) f.same;
      shaped = f.shaped;
      room = f.room;
      filled = f.filled;
      ends = f.ends;
    }

-- The head of a file names a shape with a zero border.
head_plain : (bytes : List ℕ) (s : Shape) (rest : List ℕ) → read_head bytes ≡ got s rest → s.border ≡ false
unfolding read_head
head_plain bytes s rest e =
    let t = through (read_number bytes) _ e in
    let w = through (read_number t.middle) (named t.value) t.second in
    let one : named t.value w.value w.middle ≡ got s rest = w.second in
    let is : sparse t.value w.value ≡ s = cc in
    ap (λ (q : Shape). q.border) (sym is)

pub record Accepted (places : ℕ) (s : Shape) (rates : List ℤ) (rest : List ℕ) : Type 0 where
  pub plain : s.border ≡ false
  pub shaped : check_shape s ≡ Ok tt
  pub room : points_of s ≤ places
  pub rated : Rated (points_of s) rates
  pub ends : length rest ≡ 0

pub contents_accepted : (places : ℕ) (bytes : List ℕ) (c : Contents) (rest : List ℕ) → read_contents places bytes ≡ got c rest →
    Accepted places c.shape c.rates rest
contents_accepted places bytes c rest e =
    let w = contents_whole places bytes c rest e in
    record {
      plain = head_plain bytes c.shape w.after w.head;
      shaped = w.shaped;
      room = w.room;
      rated = rates_rated (points_of c.shape) w.after c.rates rest w.filled;
      ends = w.ends;
    }
