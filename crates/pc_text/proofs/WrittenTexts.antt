-- A text without fault is the text of what it says.
use Rattle.std.proofs.Common.{◌≡◌, ℕ, ◌+◌, ◌<◌, ◌≤◌, ◌==◌, true, false, List, [], ◌∷◌, ◌++◌, drop, Some, None}
use Rattle.std.proofs.Common.{Ok, refl, sym, ap, ◌∙◌, arith, append_assoc, append-nil}
use Rattle.std.specs.Prelude.{codes, flat_map, bytes_eq, option_and_then}
use Rattle.std.specs.Fmt.{decimal}
use Rattle.std.specs.List.{slice_split, join_with_byte}
use Rattle.std.proofs.lemmas.List.{drop-drop}
use Rattle.std.proofs.lemmas.List.Splits.{join_with_byte-slice_split}
use Rattle.limits.specs.declared.TheConstants.{MOST_GENERATORS}
use Rattle.pc_text.specs.declared.fault.Kind.TheVariants as kind
use Rattle.pc_text.specs.Faults.{expect, in_line}
use Rattle.pc_text.specs.Lines.{numbered, after_front}
use Rattle.pc_text.specs.Numerals.{numeral}
use Rattle.pc_text.specs.Words.{by_number}
use Rattle.pc_text.specs.Relations.{Relation, relation}
use Rattle.pc_text.specs.Texts.{Content, first_bytes, header, prime, prime_line, count_line, relations, reads}
use Rattle.pc_text.specs.Texts.{content}
use Rattle.pc_text.specs.Grammar.{line_text, relation_text, text_of}
use Rattle.pc_text.proofs.Steps.{bind_ok, expect_ok, in_line_ok, ok_same, and_then_some, if_some, some_same}
use Rattle.pc_text.proofs.Kept.{prime_step, count_step, relations_step, prime_line_same, count_line_range}
use Rattle.pc_text.proofs.SpelledTexts.{prime_small}
use Rattle.pc_text.proofs.WrittenWords.{bytes_same, front_written, numeral_written}
use Rattle.pc_text.proofs.WrittenLines.{relation_written}

abbrev relation_lines : ℕ → List Relation → List ℕ
relation_lines p rs = flat_map (λ r. line_text (relation_text p r)) rs

-- the parts of a text are the lines of the relations behind the earlier ones
record AreLines (p : ℕ) (earlier found : List Relation) (parts : List (List ℕ)) : Type 0 where
  relations : List Relation
  behind : found ≡ earlier ++ relations
  text : join_with_byte 10 parts ≡ relation_lines p relations

no_lines : (p : ℕ) (earlier found : List Relation) (parts : List (List ℕ)) → earlier ≡ found
    → join_with_byte 10 parts ≡ [] → AreLines p earlier found parts
no_lines p earlier found parts same empty =
    record { relations = []; behind = sym same ∙ sym (append-nil earlier); text = empty }

lines_written : (p n k : ℕ) (earlier found : List Relation) (parts : List (List ℕ)) → n ≤ MOST_GENERATORS
    → p ≤ 7 → 1 < p → relations (by_number p n) earlier (numbered k parts) ≡ Ok found
    → AreLines p earlier found parts
lines_written p n k earlier found [] small low prime h = no_lines p earlier found [] (ok_same _ _ h) refl
lines_written p n k earlier found ([] ∷ []) small low prime h =
    no_lines p earlier found ([] ∷ []) (ok_same _ _ h) refl
lines_written p n k earlier found ((b ∷ bytes) ∷ []) small low prime h =
    let step = bind_ok (in_line k (relation (by_number p n) earlier (b ∷ bytes) false))
    (λ r. relations (by_number p n) (earlier ++ r ∷ []) []) found h in
    let ended = (relation_written p n earlier (b ∷ bytes) false step.0 small low prime
    (in_line_ok k _ _ step.1)).1 in
    absurd (let e : false ≡ true = ended in cc)
lines_written p n k earlier found (part ∷ next ∷ more) small low prime h =
    let step = bind_ok (in_line k (relation (by_number p n) earlier part true))
    (λ r. relations (by_number p n) (earlier ++ r ∷ []) (numbered (k + 1) (next ∷ more))) found h in
    let r = step.0 in
    let is = (relation_written p n earlier part true r small low prime (in_line_ok k _ _ step.1)).0 in
    let rest = lines_written p n (k + 1) (earlier ++ r ∷ []) found (next ∷ more) small low prime step.2 in
    let whole : (earlier ++ r ∷ []) ++ rest.relations ≡ earlier ++ r ∷ rest.relations = simp append_assoc in
    let line : relation_text p r ++ 10 ∷ relation_lines p rest.relations ≡ line_text
    (relation_text p r) ++ relation_lines p rest.relations = simp append_assoc in
    record {
      relations = r ∷ rest.relations;
      behind = rest.behind ∙ whole;
      text = ap (λ (t : List ℕ). t ++ 10 ∷ join_with_byte 10 (next ∷ more)) is
          ∙ ap (λ (t : List ℕ). relation_text p r ++ 10 ∷ t) rest.text ∙ line;
    }

-- the first line and the parts behind it
record IsFirst (k : ℕ) (parts : List (List ℕ)) (first : List ℕ) : Type 0 where
  rest : List (List ℕ)
  others : drop 1 (numbered k parts) ≡ numbered (k + 1) rest
  text : join_with_byte 10 parts ≡ first ++ 10 ∷ join_with_byte 10 rest

first_written : (k : ℕ) (parts : List (List ℕ)) (first : List ℕ) → first_bytes (numbered k parts) ≡ Some first
    → IsFirst k parts first
first_written k [] first h = absurd (let e : None ≡ Some first = h in cc)
first_written k ([] ∷ []) first h = absurd (let e : None ≡ Some first = h in cc)
first_written k ((b ∷ bytes) ∷ []) first h = absurd (let e : None ≡ Some first = h in cc)
first_written k (part ∷ next ∷ more) first h =
    let e : part ≡ first = some_same _ _ h in
    record {
      rest = next ∷ more;
      others = refl;
      text = ap (λ (t : List ℕ). t ++ 10 ∷ join_with_byte 10 (next ∷ more)) e;
    }

header_written : (bytes : List ℕ) (u : Unit {0}) → header bytes ≡ Some u → bytes ≡ codes "pgroup 1"
header_written bytes u h = bytes_same bytes (codes "pgroup 1")
    (if_some (bytes_eq bytes (codes "pgroup 1")) (Some tt) u h).0

prime_is_same : (v p : ℕ) → prime v ≡ Some p → v ≡ p
prime_is_same v p h = some_same _ _ (if_some _ (Some v) p h).1

prime_written : (bytes : List ℕ) (p : ℕ) → prime_line bytes ≡ Some p → bytes ≡ codes "prime " ++ decimal p
prime_written bytes p h =
    let outer = and_then_some prime (option_and_then (numeral 0 9)
    (after_front (codes "prime ") bytes)) p h in
    let inner = and_then_some (numeral 0 9) (after_front (codes "prime ") bytes) outer.0 outer.1 in
    front_written (codes "prime ") bytes inner.0 inner.1
    ∙ ap (λ (t : List ℕ). codes "prime " ++ t) (numeral_written 0 9 inner.0 outer.0 (omega arith) inner.2)
    ∙ ap (λ (q : ℕ). codes "prime " ++ decimal q) (prime_is_same outer.0 p outer.2)

count_written : (bytes : List ℕ) (n : ℕ) → count_line bytes ≡ Some n → bytes ≡ codes "gens " ++ decimal n
count_written bytes n h =
    let found = and_then_some (numeral 0 MOST_GENERATORS) (after_front (codes "gens ") bytes) n h in
    front_written (codes "gens ") bytes found.0 found.1
    ∙ ap (λ (t : List ℕ). codes "gens " ++ t)
    (numeral_written 0 MOST_GENERATORS found.0 n (omega arith) found.2)

joined_lines : (a b c rest : List ℕ) → a ++ 10 ∷ (b ++ 10 ∷ (c ++ 10 ∷ rest)) ≡ line_text a ++
    (line_text b ++ (line_text c ++ rest))
joined_lines a b c rest = simp append_assoc

parts_written : (parts : List (List ℕ)) (c : Content) → reads (numbered 1 parts) ≡ Ok c
    → join_with_byte 10 parts ≡ text_of c
parts_written parts c h =
    let ls = numbered 1 parts in
    let one = bind_ok (in_line 1 (expect kind.BadHeader 1 (option_and_then header (first_bytes ls))))
    (λ _. prime_step ls) c h in
    let two = bind_ok (in_line 2 (expect kind.BadPrime 1
    (option_and_then prime_line (first_bytes (drop 1 ls))))) (count_step ls) c one.2 in
    let three = bind_ok (in_line 3 (expect kind.BadCount 1
    (option_and_then count_line (first_bytes (drop 2 ls))))) (relations_step ls two.0) c two.2 in
    let p = two.0 in
    let n = three.0 in
    let found = bind_ok (relations (by_number p n) [] (drop 3 ls))
    (λ found. Ok (record { prime = p; gens = n; relations = found })) c three.2 in
    let a = and_then_some header (first_bytes ls) one.0
    (expect_ok kind.BadHeader 1 (option_and_then header (first_bytes ls)) one.0
    (in_line_ok 1 _ _ one.1)) in
    let b = and_then_some prime_line (first_bytes (drop 1 ls)) p
    (expect_ok kind.BadPrime 1 (option_and_then prime_line (first_bytes (drop 1 ls))) p
    (in_line_ok 2 _ _ two.1)) in
    let d = and_then_some count_line (first_bytes (drop 2 ls)) n
    (expect_ok kind.BadCount 1 (option_and_then count_line (first_bytes (drop 2 ls))) n
    (in_line_ok 3 _ _ three.1)) in
    let first = first_written 1 parts a.0 a.1 in
    let second = first_written 2 first.rest b.0 (ap first_bytes (sym first.others) ∙ b.1) in
    let after_two : drop 2 ls ≡ numbered 3 second.rest = sym (drop-drop 1 1 ls) ∙ ap (drop 1) first.others
    ∙ second.others in
    let third = first_written 3 second.rest d.0 (ap first_bytes (sym after_two) ∙ d.1) in
    let after_three : drop 3 ls ≡ numbered 4 third.rest = sym (drop-drop 1 2 ls) ∙ ap (drop 1) after_two
    ∙ third.others in
    let listed = prime_line_same b.0 p b.2 in
    let few = count_line_range d.0 n d.2 in
    let rest = lines_written p n 4 [] found.0 third.rest few (prime_small p listed.0) listed.1
    (ap (relations (by_number p n) []) (sym after_three) ∙ found.1) in
    first.text ∙ ap (λ (t : List ℕ). a.0 ++ 10 ∷ t) (second.text
    ∙ ap (λ (t : List ℕ). b.0 ++ 10 ∷ t) third.text)
    ∙ ap (λ (t : List ℕ). t ++ 10 ∷ (b.0 ++ 10 ∷ (d.0 ++ 10 ∷ join_with_byte 10 third.rest)))
    (header_written a.0 one.0 a.2)
    ∙ ap (λ (t : List ℕ). codes "pgroup 1" ++ 10 ∷ (t ++ 10 ∷ (d.0 ++ 10 ∷ join_with_byte 10 third.rest)))
    (prime_written b.0 p b.2)
    ∙ ap (λ (t : List ℕ). codes "pgroup 1" ++ 10 ∷
    ((codes "prime " ++ decimal p) ++ 10 ∷ (t ++ 10 ∷ join_with_byte 10 third.rest)))
    (count_written d.0 n d.2)
    ∙ joined_lines (codes "pgroup 1") (codes "prime " ++ decimal p) (codes "gens " ++ decimal n)
    (join_with_byte 10 third.rest)
    ∙ ap (λ (t : List ℕ). line_text (codes "pgroup 1") ++
    (line_text (codes "prime " ++ decimal p) ++ (line_text (codes "gens " ++ decimal n) ++ t))) (rest.text
    ∙ ap (relation_lines p) (sym rest.behind))
    ∙ ap text_of (ok_same _ _ found.2)

-- a text without fault is the text of what it says
pub content_written : (text : List ℕ) (c : Content) → content text ≡ Ok c → text ≡ text_of c
content_written text c h = sym (join_with_byte-slice_split 10 text)
    ∙ parts_written (slice_split (λ b. b == 10) text) c h
