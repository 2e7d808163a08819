-- What is read keeps the rules of a presentation.
use Rattle.std.proofs.Common.{◌≡◌, ℕ, ◌+◌, ◌-◌, ◌<◌, ◌≤◌, ◌==◌, ◌||◌, Bool, true, false, not, cond, eqb, ltb}
use Rattle.std.proofs.Common.{List, [], ◌∷◌, ◌++◌, length, set, replicate, drop, All, Option, Some, None}
use Rattle.std.proofs.Common.{Result, Ok, Err, refl, sym, subst, ap, ◌∙◌, arith, length-set, get_or-set_other}
use Rattle.std.proofs.Common.{append_assoc, append-nil}
use Rattle.std.specs.Prelude.{bytes_eq, codes, is_some, option_and_then, IfOk}
use Rattle.std.specs.List.{slice_split}
use Rattle.std.proofs.lemmas.Bool.Decides.{nat_tests}
use Rattle.std.proofs.lemmas.List.Elements.{All-set, All-append, All-nil, All-cons}
use Rattle.limits.specs.declared.TheConstants.{MOST_GENERATORS}
use Rattle.power_commutator.specs.Presentations.{IsWord}
use Rattle.pc_group.proofs.MadeParts.{identity-replicate, identity-word}
use Rattle.pc_text.specs.declared.fault.Kind.TheVariants as kind
use Rattle.pc_text.specs.declared.place.Place.{Place}
use Rattle.pc_text.specs.declared.place.Place.TheVariants.{Power, Commutator}
use Rattle.pc_text.specs.declared.fault.LineFault.{LineFault}
use Rattle.pc_text.specs.declared.fault.TextFault.{TextFault}
use Rattle.pc_text.specs.declared.texts.Content as program
use Rattle.pc_text.specs.Faults.{Fault, ◌>>=◌, expect, require, in_line}
use Rattle.pc_text.specs.Lines.{Line, lines, cut_at, after_front}
use Rattle.pc_text.specs.Numerals.{value, numeral}
use Rattle.pc_text.specs.Words.{Naming, by_number, g_generator, Factor, both, factor_parts, factor, above}
use Rattle.pc_text.specs.Words.{factors, word}
use Rattle.pc_text.specs.Relations.{Left, PowerOf, CommutatorOf, Shape, Relation, shape, left_side, least}
use Rattle.pc_text.specs.Relations.{stands, relation}
use Rattle.pc_text.specs.Texts.{Content, first_bytes, header, prime, prime_line, count_line, relations}
use Rattle.pc_text.specs.Texts.{content}
use Rattle.pc_text.specs.Views.{TextGives, shown_content}
use Rattle.pc_text.specs.Rules.{IsPlace, IsRelation, AreNew, IsContent}
use Rattle.pc_text.proofs.Steps.{bind_ok, expect_ok, require_ok, in_line_ok, and_then_some, if_some}
use Rattle.pc_text.proofs.Steps.{some_same, err_ok, ok_same, and_parts, leb_le, ltb_lt}

-- numerals and factors

pub numeral_range : (low high : ℕ) (bytes : List ℕ) (k : ℕ) → numeral low high bytes ≡ Some k → (low ≤ k)
    × (k ≤ high)
numeral_range low high bytes k h =
    let found = if_some _ (Some (value bytes)) k h in
    let outer = and_parts _ _ found.0 in
    let inner = and_parts _ _ outer.0 in
    let e : value bytes ≡ k = some_same _ _ found.1 in
    (rw e at (leb_le low (value bytes) inner.1), rw e at (leb_le (value bytes) high outer.1))

pub generator_range : (n : ℕ) (bytes : List ℕ) (k : ℕ) → g_generator n bytes ≡ Some k → (0 < k) × (k ≤ n)
generator_range n [] k h = absurd (let e : None ≡ Some k = h in cc)
generator_range n (b ∷ digits) k h =
    let r = numeral_range 1 n digits k (if_some (eqb b 103) (numeral 1 n digits) k h).1 in
    (omega (arith, r.0), r.1)

pub both_some : (a b : Option ℕ) (f : Factor) → both a b ≡ Some f → (a ≡ Some f.0) × (b ≡ Some f.1)
both_some (Some k) (Some e) f h = let g : (k, e) ≡ f = some_same _ _ h in
    (ap (λ (x : Factor). Some x.0) g, ap (λ (x : Factor). Some x.1) g)
both_some (Some k) None f h = absurd (let e : None ≡ Some f = h in cc)
both_some None b f h = absurd (let e : None ≡ Some f = h in cc)

pub record IsFactor (p n : ℕ) (f : Factor) : Type 0 where
  pub index : 0 < f.0
  pub last : f.0 ≤ n
  pub exponent : f.1 < p

parts_range : (p n : ℕ) (piece : List ℕ) (cut : Option (List ℕ × List ℕ)) (f : Factor) → 1 < p
    → factor_parts (by_number p n) piece cut ≡ Some f → IsFactor p n f
parts_range p n piece (Some parts) f prime h =
    let found = both_some (g_generator n parts.0) (numeral 2 (p - 1) parts.1) f h in
    let k = generator_range n parts.0 f.0 found.0 in
    let e = numeral_range 2 (p - 1) parts.1 f.1 found.1 in
    record { index = k.0; last = k.1; exponent = omega (arith, e.1) }
parts_range p n piece None f prime h =
    let found = both_some (g_generator n piece) (Some 1) f h in
    let k = generator_range n piece f.0 found.0 in
    let e : 1 ≡ f.1 = some_same _ _ found.1 in
    record { index = k.0; last = k.1; exponent = omega arith }

factor_range : (p n : ℕ) (piece : List ℕ) (f : Factor) → 1 < p → factor (by_number p n) piece ≡ Some f
    → IsFactor p n f
factor_range p n piece f prime h = parts_range p n piece (cut_at 94 piece) f prime h

pub above_some : (last : ℕ) (o : Option Factor) (f : Factor) → above last o ≡ Some f → (o ≡ Some f)
    × (last < f.0)
above_some last None f h = absurd (let e : None ≡ Some f = h in cc)
above_some last (Some g) f h =
    let found = if_some (ltb last g.0) (Some g) f h in
    let e : g ≡ f = some_same _ _ found.1 in
    (found.1, rw e at (ltb_lt last g.0 found.0))

-- words

set_word : (p n j k e : ℕ) (w : List ℕ) → IsWord p n j w → j < k → e < p → IsWord p n j (set w (k - 1) e)
set_word p n j k e w is lt small = record {
  len = length-set w (k - 1) e ∙ is.len;
  small = All-set (λ e. e < p) w (k - 1) e small is.small;
  later = λ i low. get_or-set_other w (k - 1) i e 0 (omega (arith, low, lt)) ∙ is.later i low;
}

factors_word : (p n j last column : ℕ) (exponents w : List ℕ) (pieces : List (List ℕ)) → 1 < p → j ≤ last
    → IsWord p n j exponents
    → factors (by_number p n) last column exponents pieces ≡ Ok w → IsWord p n j w
factors_word p n j last column exponents w [] prime le is h = subst (IsWord p n j) (ok_same _ _ h) is
factors_word p n j last column exponents w (piece ∷ pieces) prime le is h =
    let step = bind_ok (expect kind.BadWord column (above last (factor (by_number p n) piece)))
    (λ f. factors (by_number p n) f.0 (column + length piece + 1)
    (set exponents (f.0 - 1) f.1) pieces) w h in
    let f = step.0 in
    let found = above_some last (factor (by_number p n) piece) f (expect_ok kind.BadWord column _ f step.1) in
    let range = factor_range p n piece f prime found.0 in
    let lt = found.1 in
    factors_word p n j f.0 (column + length piece + 1) (set exponents (f.0 - 1) f.1) w pieces prime
    (omega (arith, lt, le))
    (set_word p n j f.0 f.1 exponents is (omega (arith, lt, le)) range.exponent) step.2

zero_word : (p n j : ℕ) → 1 < p → IsWord p n j (replicate n 0)
zero_word p n j prime = subst (IsWord p n j) (sym (identity-replicate n)) (identity-word p n j (omega arith))

word_by : (p n last column : ℕ) (w : List ℕ) (pieces : List (List ℕ)) (b : Bool) → 1 < p
    → cond b (Ok (replicate n 0)) (factors (by_number p n) last column (replicate n 0) pieces) ≡ Ok w
    → IsWord p n last w
word_by p n last column w pieces true prime h =
    subst (IsWord p n last) (ok_same _ _ h) (zero_word p n last prime)
word_by p n last column w pieces false prime h =
    factors_word p n last last column (replicate n 0) w pieces prime (omega arith)
    (zero_word p n last prime) h

pub word_kept : (p n last column : ℕ) (bytes w : List ℕ) → 1 < p
    → word (by_number p n) last column bytes ≡ Ok w → IsWord p n last w
word_kept p n last column bytes w prime h =
    word_by p n last column w (slice_split (λ b. b == 42) bytes) (bytes_eq bytes (codes "1")) prime h

-- relations

side_power : (n column : ℕ) (o : Option ℕ) (b : Bool) (place : Place)
    → ((i : ℕ) → o ≡ Some i → (0 < i) × (i ≤ n))
    → (expect kind.BadGenerator 1 o >>= λ i. require kind.BadPower column b >>= λ _. Ok (Power i)) ≡ Ok place
    → IsPlace n place
side_power n column (Some i) true place range h = subst (IsPlace n) (ok_same _ _ h) (range i refl)
side_power n column (Some i) false place range h = absurd (err_ok _ _ h)
side_power n column None b place range h = absurd (err_ok _ _ h)

side_commutator : (n column : ℕ) (o q : Option ℕ) (place : Place) → ((i : ℕ) → o ≡ Some i → (0 < i) × (i ≤ n))
    → ((i : ℕ) → q ≡ Some i → (0 < i) × (i ≤ n))
    → (expect kind.BadGenerator 2 o >>= λ j. expect kind.BadGenerator column q >>= λ i. require kind.BadOrder
    1 (ltb i j) >>= λ _. Ok (Commutator j i)) ≡ Ok place → IsPlace n place
side_commutator n column (Some j) (Some i) place first second h =
    let step = bind_ok (require kind.BadOrder 1 (ltb i j)) (λ _. Ok (Commutator j i)) place h in
    let lt = ltb_lt i j (require_ok kind.BadOrder 1 (ltb i j) step.0 step.1) in
    subst (IsPlace n) (ok_same _ _ step.2) ((second i refl).0, lt, (first j refl).1)
side_commutator n column (Some j) None place first second h = absurd (err_ok _ _ h)
side_commutator n column None q place first second h = absurd (err_ok _ _ h)

pub side_kept : (p n : ℕ) (left : Left) (place : Place) → left_side (by_number p n) left ≡ Ok place
    → IsPlace n place
side_kept p n (PowerOf a digits) place h =
    side_power n (length a + 2) (g_generator n a) (is_some (numeral p p digits)) place (generator_range n a) h
side_kept p n (CommutatorOf b a) place h =
    side_commutator n (length b + 3) (g_generator n b) (g_generator n a) place (generator_range n b)
    (generator_range n a) h

not_true : (b : Bool) → not b ≡ true → b ≡ false
not_true true h = absurd (let e : false ≡ true = h in cc)
not_true false h = refl

pub record IsNext (p n : ℕ) (earlier : List Relation) (r : Relation) : Type 0 where
  pub kept : IsRelation p n r
  pub new : stands r.place earlier ≡ false

-- the rows of a line, from the last
abbrev pub new_row : List Relation → Place → List ℕ → Result Relation LineFault
new_row earlier place exponents = require kind.Repeated 1 (not (stands place earlier)) >>= λ _. Ok
    (record { place = place; word = exponents })

abbrev pub word_row : Naming → List Relation → Shape → Place → Result Relation LineFault
word_row names earlier parts place = word names
    (least place) parts.column parts.right >>= new_row earlier place

abbrev pub side_row : Naming → List Relation → Shape → Result Relation LineFault
side_row names earlier parts = left_side names parts.left >>= word_row names earlier parts

abbrev pub shape_row : Naming → List Relation → List ℕ → Result Relation LineFault
shape_row names earlier bytes = expect kind.BadLine 1 (shape names bytes) >>= side_row names earlier

pub relation_kept : (p n : ℕ) (earlier : List Relation) (bytes : List ℕ) (ended : Bool) (r : Relation) → 1 < p
    → relation (by_number p n) earlier bytes ended ≡ Ok r → IsNext p n earlier r
relation_kept p n earlier bytes ended r prime h =
    let one = bind_ok (require kind.BadLine 1 ended) (λ _. shape_row (by_number p n) earlier bytes) r h in
    let parts = bind_ok (expect kind.BadLine 1 (shape (by_number p n) bytes))
    (side_row (by_number p n) earlier) r one.2 in
    let place = bind_ok (left_side (by_number p n) parts.0.left)
    (word_row (by_number p n) earlier parts.0) r parts.2 in
    let exponents = bind_ok (word (by_number p n) (least place.0) parts.0.column parts.0.right)
    (new_row earlier place.0) r place.2 in
    let once = bind_ok (require kind.Repeated 1 (not (stands place.0 earlier)))
    (λ _. Ok (record { place = place.0; word = exponents.0 })) r exponents.2 in
    subst (IsNext p n earlier) (ok_same _ _ once.2) (record {
      kept = record {
        place = side_kept p n parts.0.left place.0 place.1;
        word = word_kept p n (least place.0) parts.0.column parts.0.right exponents.0 prime exponents.1;
      };
      new = not_true (stands place.0 earlier)
          (require_ok kind.Repeated 1 (not (stands place.0 earlier)) once.0 once.1);
    })

-- texts

or_false : (a b : Bool) → a ≡ false → b ≡ false → (a || b) ≡ false
or_false a b f g = rw (f, g) refl

new_behind : (earlier rs : List Relation) (r : Relation) → AreNew earlier rs
    → stands r.place (earlier ++ rs) ≡ false → AreNew earlier (rs ++ r ∷ [])
new_behind earlier [] r new is = (rw (append-nil earlier) at is, tt)
new_behind earlier (s ∷ rs) r new is =
    let e : earlier ++ s ∷ rs ≡ (earlier ++ s ∷ []) ++ rs = simp append_assoc in
    (new.0, new_behind (earlier ++ s ∷ []) rs r new.1 (rw e at is))

pub record AreKept (p n : ℕ) (rs : List Relation) : Type 0 where
  pub kept : All (IsRelation p n) rs
  pub once : AreNew [] rs

one_more : (p n : ℕ) (earlier : List Relation) (r : Relation) → AreKept p n earlier → IsNext p n earlier r
    → AreKept p n (earlier ++ r ∷ [])
one_more p n earlier r are is = record {
  kept = All-append (IsRelation p n) earlier (r ∷ []) are.kept
      (All-cons (IsRelation p n) r [] is.kept (All-nil (IsRelation p n)));
  once = new_behind [] earlier r are.once is.new;
}

relations_kept : (p n : ℕ) (earlier found : List Relation) (ls : List Line) → 1 < p → AreKept p n earlier
    → relations (by_number p n) earlier ls ≡ Ok found → AreKept p n found
relations_kept p n earlier found [] prime are h = subst (AreKept p n) (ok_same _ _ h) are
relations_kept p n earlier found (line ∷ ls) prime are h =
    let step = bind_ok (in_line line.number (relation (by_number p n) earlier line.bytes line.ended))
    (λ r. relations (by_number p n) (earlier ++ r ∷ []) ls) found h in
    let next = relation_kept p n earlier line.bytes line.ended step.0 prime
    (in_line_ok line.number _ _ step.1) in
    relations_kept p n (earlier ++ step.0 ∷ []) found ls prime (one_more p n earlier step.0 are next) step.2

above_one : (v : ℕ) → (eqb v 2 || eqb v 3 || eqb v 5 || eqb v 7) ≡ true → 1 < v
above_one v h = grind (arith, nat_tests)

prime_same : (v p : ℕ) → prime v ≡ Some p → (prime p ≡ Some p) × (1 < p)
prime_same v p h =
    let found = if_some (eqb v 2 || eqb v 3 || eqb v 5 || eqb v 7) (Some v) p h in
    let e : v ≡ p = some_same _ _ found.1 in
    (subst (λ q. prime q ≡ Some q) e (h ∙ ap (λ (q : ℕ). Some q) (sym e)), rw e at (above_one v found.0))

pub prime_line_same : (bytes : List ℕ) (p : ℕ) → prime_line bytes ≡ Some p → (prime p ≡ Some p) × (1 < p)
prime_line_same bytes p h =
    let found = and_then_some prime (option_and_then (numeral 0 9)
    (after_front (codes "prime ") bytes)) p h in
    prime_same found.0 p found.2

pub count_line_range : (bytes : List ℕ) (n : ℕ) → count_line bytes ≡ Some n → n ≤ MOST_GENERATORS
count_line_range bytes n h =
    let found = and_then_some (numeral 0 MOST_GENERATORS) (after_front (codes "gens ") bytes) n h in
    (numeral_range 0 MOST_GENERATORS found.0 n found.2).1

-- the rows of a text, from the last
abbrev pub relations_step : List Line → ℕ → ℕ → Result Content Fault
relations_step ls p n = relations (by_number p n) [] (drop 3 ls) >>= λ found. Ok
    (record { prime = p; gens = n; relations = found })

abbrev pub count_step : List Line → ℕ → Result Content Fault
count_step ls p = in_line 3 (expect kind.BadCount 1
    (option_and_then count_line (first_bytes (drop 2 ls)))) >>= relations_step ls p

abbrev pub prime_step : List Line → Result Content Fault
prime_step ls = in_line 2 (expect kind.BadPrime 1
    (option_and_then prime_line (first_bytes (drop 1 ls)))) >>= count_step ls

-- what a text says keeps the rules
pub content_kept : (text : List ℕ) (c : Content) → content text ≡ Ok c → IsContent c
content_kept text c h =
    let ls = lines text in
    let header = bind_ok (in_line 1 (expect kind.BadHeader 1 (option_and_then header (first_bytes ls))))
    (λ _. prime_step ls) c h in
    let p = bind_ok (in_line 2 (expect kind.BadPrime 1
    (option_and_then prime_line (first_bytes (drop 1 ls))))) (count_step ls) c header.2 in
    let n = bind_ok (in_line 3 (expect kind.BadCount 1
    (option_and_then count_line (first_bytes (drop 2 ls))))) (relations_step ls p.0) c p.2 in
    let found = bind_ok (relations (by_number p.0 n.0) [] (drop 3 ls))
    (λ found. Ok (record { prime = p.0; gens = n.0; relations = found })) c n.2 in
    let second = first_bytes (drop 1 ls) in
    let third = first_bytes (drop 2 ls) in
    let listed = and_then_some prime_line second p.0
    (expect_ok kind.BadPrime 1 (option_and_then prime_line second) p.0
    (in_line_ok 2 (expect kind.BadPrime 1 (option_and_then prime_line second)) p.0 p.1)) in
    let counted = and_then_some count_line third n.0
    (expect_ok kind.BadCount 1 (option_and_then count_line third) n.0
    (in_line_ok 3 (expect kind.BadCount 1 (option_and_then count_line third)) n.0 n.1)) in
    let q = prime_line_same listed.0 p.0 listed.2 in
    let are = relations_kept p.0 n.0 [] found.0 (drop 3 (lines text)) q.1
    (record { kept = All-nil (IsRelation p.0 n.0); once = tt }) found.1 in
    subst IsContent (ok_same _ _ found.2) (record {
      prime = q.0;
      few = count_line_range counted.0 n.0 counted.2;
      relations = are.kept;
      once = are.once;
    })

pub result_kept : (text : List ℕ) (r : Result program.Content TextFault)
    → TextGives shown_content r (content text) → IfOk r (λ c. IsContent (shown_content c))
result_kept text (Ok c) h = content_kept text (shown_content c) h
result_kept text (Err e) h = tt
