-- The canonical text of a presentation is read as that presentation.
use Rattle.std.proofs.Common.{◌≡◌, ℕ, suc, ◌-◌, ◌<◌, ◌≤◌, ◌==◌, Bool, true, false, not, cond, List, [], ◌∷◌}
use Rattle.std.proofs.Common.{map, filter, get_or, length, replicate, All, Some, Ok, refl, sym, ap, ◌∙◌}
use Rattle.std.proofs.Common.{arith}
use Rattle.std.specs.List.{list_any}
use Rattle.std.proofs.lemmas.List.Elements.{All-filter, All-map}
use Rattle.limits.specs.declared.TheConstants.{MOST_GENERATORS}
use Rattle.power_commutator.specs.Presentations.{Presentation, IsWord, IsPresentation, power_word}
use Rattle.power_commutator.specs.Presentations.{commutator_word, range}
use Rattle.pc_text.specs.declared.place.Place.{Place}
use Rattle.pc_text.specs.declared.place.Place.TheVariants.{Power, Commutator}
use Rattle.pc_text.specs.Faults.{◌>>=◌}
use Rattle.pc_text.specs.Relations.{Relation, same_place, least}
use Rattle.pc_text.specs.FromRelations.{word_given, powers_given, commutators_given}
use Rattle.pc_text.specs.Texts.{presentation_of, prime}
use Rattle.pc_text.specs.Grammar.{is_empty_word}
use Rattle.pc_text.specs.Canonical.{places, word_at, relation_at, written, content_of}
use Rattle.pc_text.specs.Rules.{IsPlace, IsRelation, IsContent}
use Rattle.pc_text.specs.Laws.{CanonicalIsRead}
use Rattle.pc_text.proofs.Given.{map_same}
use Rattle.pc_text.proofs.PlaceLemmas.{same_is, Ascend, ascend_from, place_number, places_ascend}
use Rattle.pc_text.proofs.PlaceLemmas.{AscendRelations, ascending_new, places_are, is_among}
use Rattle.pc_text.proofs.SpelledWords.{zeros}
use Rattle.pc_text.proofs.SpelledTexts.{content_read}

-- what the canonical text says keeps the rules

place_word : (P : Presentation) → IsPresentation P → (q : Place) → IsPlace P.gens q
    → IsWord P.prime P.gens (least q) (word_at P q)
place_word P is (Power i) at = is.power i at.0 at.1
place_word P is (Commutator j i) at = is.commutator j i at.0 at.1 at.2

place_relation : (P : Presentation) → IsPresentation P → (q : Place) → IsPlace P.gens q
    → IsRelation P.prime P.gens (relation_at P q)
place_relation P is q at = record { place = at; word = place_word P is q at }

abbrev some : Relation → Bool
some r = not (is_empty_word r.word)

written_are : (P : Presentation) → IsPresentation P → All (IsRelation P.prime P.gens) (written P)
written_are P is =
    All-filter some (IsRelation P.prime P.gens) (map (relation_at P) (places P.gens))
    (All-map (IsRelation P.prime P.gens) (relation_at P) (places P.gens)
    (λ i q lt. place_relation P is (get_or (places P.gens) i q) (places_are P.gens i q lt)))

keep_by : (b : ℕ) (P : Presentation) (q : Place) (rs : List Relation) (t : Bool) → b < place_number q
    → ((c : ℕ) → c ≤ place_number q → AscendRelations c rs)
    → AscendRelations b (cond t (relation_at P q ∷ rs) rs)
keep_by b P q rs true lt more = (lt, more (place_number q) (omega arith))
keep_by b P q rs false lt more = more b (omega arith)

written_ascend : (P : Presentation) (b : ℕ) (qs : List Place) → Ascend b qs
    → AscendRelations b (filter some (map (relation_at P) qs))
written_ascend P b [] h = tt
written_ascend P b (q ∷ qs) h =
    keep_by b P q (filter some (map (relation_at P) qs)) (some (relation_at P q)) h.0
    (λ c le. written_ascend P c qs (ascend_from c (place_number q) qs le h.1))

content_is : (P : Presentation) → IsPresentation P → prime P.prime ≡ Some P.prime → P.gens ≤ MOST_GENERATORS
    → IsContent (content_of P)
content_is P is listed few = record {
  prime = listed;
  few = few;
  relations = written_are P is;
  once = ascending_new 0 [] (written P) (λ i d lt. absurd (omega (arith, lt)))
      (written_ascend P 0 (places P.gens) (places_ascend P.gens few));
}

-- it gives the words of the presentation

given_by : (P : Presentation) (n : ℕ) (q r : Place) (rs : List Relation) (t s : Bool)
    → some (relation_at P r) ≡ t → same_place q r ≡ s
    → length (word_at P q) ≡ n → ((s ≡ true → t ≡ true → ⊥) → word_given n rs q ≡ word_at P q)
    → word_given n (cond t (relation_at P r ∷ rs) rs) q ≡ word_at P q
given_by P n q r rs true true e f len rest = rw f (ap (word_at P) (sym (same_is q r f)))
given_by P n q r rs true false e f len rest = rw f (rest (λ a b. let c : false ≡ true = a in cc))
given_by P n q r rs false s e f len rest = rest (λ a b. let c : false ≡ true = b in cc)

empty_word : (w : List ℕ) (n : ℕ) → not (is_empty_word w) ≡ false → length w ≡ n → w ≡ replicate n 0
empty_word w n h len = sym (ap (λ m. replicate m 0) (sym len)
    ∙ zeros w (not_not (list_any (λ e. not (e == 0)) w) h))
  where
    not_not : (b : Bool) → not (not b) ≡ false → b ≡ false
    not_not true h = h
    not_not false h = refl

given_written : (P : Presentation) (n : ℕ) (q : Place) (qs : List Place) → length (word_at P q) ≡ n
    → (list_any (same_place q) qs ≡ false → word_at P q ≡ replicate n 0)
    → word_given n (filter some (map (relation_at P) qs)) q ≡ word_at P q
given_written P n q [] len missing = sym (missing refl)
given_written P n q (r ∷ qs) len missing =
    given_by P n q r (filter some (map (relation_at P) qs)) (some (relation_at P r))
    (same_place q r) refl refl len
    (λ ne. given_written P n q qs len (λ none. empty_at (some (relation_at P r))
    (same_place q r) refl refl ne none))
  where
    empty_at : (t s : Bool) → some (relation_at P r) ≡ t → same_place q r ≡ s → (s ≡ true → t ≡ true → ⊥)
        → list_any (same_place q) qs ≡ false → word_at P q ≡ replicate n 0
    empty_at true true e f ne none = absurd (ne refl refl)
    empty_at false true e f ne none =
        let at : word_at P q ≡ word_at P r = ap (word_at P) (same_is q r f) in
        at ∙ empty_word (word_at P r) n e (ap length (sym at) ∙ len)
    empty_at t false e f ne none = missing (rw (f, none) refl)

pub given : (P : Presentation) → IsPresentation P → (q : Place) → IsPlace P.gens q
    → word_given P.gens (written P) q ≡ word_at P q
given P is q at =
    given_written P P.gens q (places P.gens) (place_word P is q at).len
    (λ none. absurd (let e : true ≡ false = sym (is_among P.gens q at) ∙ none in cc))

-- a list by its entries
by_entries : {X : Type 0} (d : X) (xs : List X) (j : ℕ)
    → map (λ i. get_or xs (i - j) d) (range j (length xs)) ≡ xs
by_entries d [] j = refl
by_entries d (x ∷ xs) j =
    let z : j - j ≡ 0 = omega arith in
    let rest : map (λ i. get_or (x ∷ xs) (i - j) d) (range (suc j) (length xs)) ≡ map
    (λ i. get_or xs (i - suc j) d) (range (suc j) (length xs)) =
    map_same (λ i. get_or (x ∷ xs) (i - j) d) (λ i. get_or xs (i - suc j) d) (suc j) (length xs)
    (λ i low high. let e : i - j ≡ suc (i - suc j) = omega arith in rw e refl) in
    rw z (ap (λ ys. x ∷ ys) (rest ∙ by_entries d xs (suc j)))

entries : {X : Type 0} (d : X) (xs : List X) (m : ℕ) → length xs ≡ m
    → map (λ i. get_or xs (i - 1) d) (range 1 m) ≡ xs
entries d xs m len = rw (← len) (by_entries d xs 1)

powers_are : (P : Presentation) → IsPresentation P → powers_given P.gens (written P) ≡ P.powers
powers_are P is =
    map_same (λ i. word_given P.gens (written P) (Power i)) (power_word P) 1 P.gens
    (λ i low high. sym (given P is (Power i) (low, omega arith)))
    ∙ entries [] P.powers P.gens is.power-count

row_is : (P : Presentation) → IsPresentation P → (j : ℕ) → 1 ≤ j → j ≤ P.gens
    → commutators_given P.gens (written P) j ≡ get_or P.commutators (j - 1) []
row_is P is j low high =
    map_same (λ i. word_given P.gens (written P) (Commutator j i)) (commutator_word P j) 1 (j - 1)
    (λ i a b. sym (given P is (Commutator j i) (a, omega arith, high)))
    ∙ entries [] (get_or P.commutators (j - 1) []) (j - 1) (is.row-count j low high)

commutators_are : (P : Presentation) → IsPresentation P
    → map (commutators_given P.gens (written P)) (range 1 P.gens) ≡ P.commutators
commutators_are P is =
    map_same (commutators_given P.gens (written P)) (λ j. get_or P.commutators (j - 1) []) 1 P.gens
    (λ j low high. sym (row_is P is j low (omega arith)))
    ∙ entries [] P.commutators P.gens is.commutator-count

same_presentation : (P : Presentation) → IsPresentation P → presentation_of (content_of P) ≡ P
same_presentation P is = rw (powers_are P is, commutators_are P is) refl

pub canonical_read : CanonicalIsRead
canonical_read P is listed few =
    ap (λ r. r >>= λ c. Ok (presentation_of c)) (content_read (content_of P) (content_is P is listed few))
    ∙ ap (λ (Q : Presentation). Ok Q) (same_presentation P is)
