-- The text of relations is read as those relations.
use Rattle.std.proofs.Common.{◌≡◌, ℕ, suc, ◌+◌, ◌≤◌, ◌||◌, eqb, true, List, [], ◌∷◌, ◌++◌, All, Some, Ok}
use Rattle.std.proofs.Common.{refl, sym, ap, ◌∙◌, arith, append_assoc, append-nil}
use Rattle.std.specs.Prelude.{codes, flat_map}
use Rattle.std.specs.Fmt.{decimal}
use Rattle.std.proofs.lemmas.Bool.Decides.{nat_tests}
use Rattle.limits.specs.declared.TheConstants.{MOST_GENERATORS}
use Rattle.pc_text.specs.Lines.{cut_at, lines_from}
use Rattle.pc_text.specs.Words.{by_number}
use Rattle.pc_text.specs.Relations.{Relation}
use Rattle.pc_text.specs.Texts.{Content, relations, header, prime, prime_line, count_line, content}
use Rattle.pc_text.specs.Cuts.{by_cuts}
use Rattle.pc_text.specs.Grammar.{line_text, relation_text, text_of}
use Rattle.pc_text.specs.Rules.{IsRelation, AreNew, IsContent}
use Rattle.pc_text.proofs.Steps.{if_some}
use Rattle.pc_text.proofs.Spelled.{lacks, cut_spelled, numeral_spelled, decimal_lacks, line_feed_no_digit}
use Rattle.pc_text.proofs.SpelledLines.{relation_read, relation_text_lacks}
use Rattle.pc_text.proofs.TextLemmas.{good_line}
use Rattle.pc_text.proofs.CutsLemmas.{content_by_cuts}

line_cut : (bytes rest : List ℕ) → lacks 10 bytes ≡ true
    → cut_at 10 (line_text bytes ++ rest) ≡ Some (bytes, rest)
line_cut bytes rest h =
    let e : line_text bytes ++ rest ≡ bytes ++ 10 ∷ rest = simp append_assoc in
    ap (cut_at 10) e ∙ cut_spelled 10 bytes rest h

relations_read : (p n : ℕ) (earlier rs : List Relation) (k : ℕ) → p ≤ 7 → n ≤ MOST_GENERATORS
    → All (IsRelation p n) rs → AreNew earlier rs
    → relations (by_number p n) earlier (lines_from k (flat_map (λ r. line_text (relation_text p r)) rs)) ≡ Ok
    (earlier ++ rs)
relations_read p n earlier [] k prime few are new =
    ap (λ (rs : List Relation). Ok rs) (sym (append-nil earlier))
relations_read p n earlier (r ∷ rs) k prime few are new =
    let rest = flat_map (λ r. line_text (relation_text p r)) rs in
    let is = are 0 r (omega arith) in
    let whole : (earlier ++ r ∷ []) ++ rs ≡ earlier ++ r ∷ rs = simp append_assoc in
    good_line (by_number p n) earlier r k (line_text (relation_text p r) ++ rest) (relation_text p r) rest
    (line_cut (relation_text p r) rest (relation_text_lacks p n r prime few is))
    (relation_read p n earlier r prime few is new.0)
    ∙ relations_read p n (earlier ++ r ∷ []) rs (k + 1) prime few
    (λ i d lt. are (suc i) d (omega arith)) new.1
    ∙ ap (λ (rs : List Relation). Ok rs) whole

text_from : (t0 t1 t2 t3 h a b : List ℕ) (p n : ℕ) (found : List Relation) → cut_at 10 t0 ≡ Some (h, t1)
    → header h ≡ Some tt → cut_at 10 t1 ≡ Some (a, t2) → prime_line a ≡ Some p
    → cut_at 10 t2 ≡ Some (b, t3) → count_line b ≡ Some n
    → relations (by_number p n) [] (lines_from 4 t3) ≡ Ok found
    → by_cuts t0 ≡ Ok (record { prime = p; gens = n; relations = found })
unfolding by_cuts
text_from t0 t1 t2 t3 h a b p n found c0 is0 c1 is1 c2 is2 rest = rw (c0, is0, c1, is1, c2, is2, rest) refl

prime_spelled : (p : ℕ) → p ≤ 7 → prime p ≡ Some p → prime_line (codes "prime " ++ decimal p) ≡ Some p
prime_spelled p small is = rw (numeral_spelled 0 9 p (omega arith) (omega arith) (omega arith)) is

count_spelled : (n : ℕ) → n ≤ MOST_GENERATORS → count_line (codes "gens " ++ decimal n) ≡ Some n
count_spelled n small = numeral_spelled 0 MOST_GENERATORS n small (omega arith) small

listed_small : (p : ℕ) → (eqb p 2 || eqb p 3 || eqb p 5 || eqb p 7) ≡ true → p ≤ 7
listed_small p h = grind (arith, nat_tests)

pub prime_small : (p : ℕ) → prime p ≡ Some p → p ≤ 7
prime_small p h = listed_small p (if_some (eqb p 2 || eqb p 3 || eqb p 5 || eqb p 7) (Some p) p h).0

-- a text of the grammar is read as what it says
pub content_read : (c : Content) → IsContent c → content (text_of c) ≡ Ok c
content_read c good =
    let small = prime_small c.prime good.prime in
    let t3 = flat_map (λ r. line_text (relation_text c.prime r)) c.relations in
    let b = codes "gens " ++ decimal c.gens in
    let a = codes "prime " ++ decimal c.prime in
    let t2 = line_text b ++ t3 in
    let t1 = line_text a ++ t2 in
    sym (content_by_cuts (text_of c))
    ∙ text_from (text_of c) t1 t2 t3 (codes "pgroup 1") a b c.prime c.gens c.relations
    (line_cut (codes "pgroup 1") t1 refl) refl
    (line_cut a t2 (decimal_lacks 10 c.prime line_feed_no_digit (omega (arith, small))))
    (prime_spelled c.prime small good.prime)
    (line_cut b t3 (decimal_lacks 10 c.gens line_feed_no_digit good.few)) (count_spelled c.gens good.few)
    (relations_read c.prime c.gens [] c.relations 4 small good.few good.relations good.once)
