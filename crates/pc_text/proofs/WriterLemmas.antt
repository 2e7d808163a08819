-- What the writer has written so far.
use Rattle.std.proofs.Common.{◌≡◌, ◌≢◌, ℕ, suc, ◌+◌, ◌<◌, ◌≤◌, not, map, filter, Some, Ok, subst, Bool, true}
use Rattle.std.proofs.Common.{false, cond, eqb, List, [], ◌∷◌, ◌++◌, length, take, get_or, refl, sym, ap, ◌∙◌}
use Rattle.std.proofs.Common.{arith, append_assoc, append-nil, length-take}
use Rattle.std.specs.List.{join_with_byte}
use Rattle.std.proofs.lemmas.Bool.Decides.{nat_tests}
use Rattle.std.proofs.lemmas.List.{take_more}
use Rattle.std.proofs.lemmas.List.{flat_map_more, map-append}
use Rattle.std.proofs.lemmas.Grind.{flat_map-append}
use Rattle.std.specs.Prelude.{codes, flat_map}
use Rattle.std.specs.Fmt.{decimal}
use Rattle.limits.specs.declared.TheConstants.{MOST_GENERATORS}
use Rattle.group_table.specs.declared.Prime.{Prime}
use Rattle.group_table.specs.Prime.{prime_value}
use Rattle.power_commutator.specs.Presentations.{Presentation, IsPresentation, range}
use Rattle.pc_group.proofs.MadeParts.{range-next}
use Rattle.pc_text.specs.declared.place.Place.{Place}
use Rattle.pc_text.specs.Relations.{Relation}
use Rattle.pc_text.specs.Texts.{prime, read}
use Rattle.pc_text.specs.Grammar.{factor_text, factor_texts, is_empty_word, line_text, relation_text}
use Rattle.pc_text.specs.Grammar.{header_text}
use Rattle.pc_text.specs.Canonical.{power_places, row_places, commutator_places, places, word_at, relation_at}
use Rattle.pc_text.specs.Canonical.{written, relation_line, place_lines, canonical}
use Rattle.pc_text.proofs.PrimeLemmas.{prime_is}
use Rattle.pc_text.proofs.CanonicalLemmas.{canonical_read}

abbrev pub some_piece : List (List ℕ) → Bool
some_piece [] = false
some_piece (x ∷ xs) = true

-- the factors of the first k exponents stand behind the start
pub record Joined (start word : List ℕ) (k : ℕ) (text : List ℕ) (joined : Bool) : Type 0 where
  pub items : text ≡ start ++ join_with_byte 42 (factor_texts 1 (take k word))
  pub some : joined ≡ some_piece (factor_texts 1 (take k word))

append_cond : {X : Type 0} (x : X) (xs ys : List X) (b : Bool)
    → cond b (xs ++ ys) (x ∷ (xs ++ ys)) ≡ cond b xs (x ∷ xs) ++ ys
append_cond x xs ys true = refl
append_cond x xs ys false = refl

factors_append : (k e : ℕ) (w : List ℕ) → factor_texts k (w ++ e ∷ []) ≡ factor_texts k w ++ factor_texts
    (k + length w) (e ∷ [])
factors_append k e [] = let z : k + 0 ≡ k = omega arith in rw z refl
factors_append k e (d ∷ w) =
    let z : k + suc (length w) ≡ suc k + length w = omega arith in
    rw (factors_append (suc k) e w, z) (append_cond (factor_text k d) (factor_texts (suc k) w)
    (factor_texts (suc k + length w) (e ∷ [])) (eqb d 0))

join_append : (x : List ℕ) (xs : List (List ℕ))
    → join_with_byte 42 (xs ++ x ∷ []) ≡ join_with_byte 42 xs ++ cond (some_piece xs) (42 ∷ x) x
join_append x [] = refl
join_append x (y ∷ []) = refl
join_append x (y ∷ z ∷ xs) = ap (λ (t : List ℕ). y ++ (42 ∷ t)) (join_append x (z ∷ xs))
    ∙ sym (append_assoc y (42 ∷ join_with_byte 42 (z ∷ xs)) (42 ∷ x))

none_more : (k e : ℕ) → e ≡ 0 → factor_texts k (e ∷ []) ≡ []
none_more k e h = rw h refl

one_more : (k e : ℕ) → e ≢ 0 → factor_texts k (e ∷ []) ≡ factor_text k e ∷ []
one_more k e h = grind (arith, nat_tests)

some_append : (x : List ℕ) (xs : List (List ℕ)) → some_piece (xs ++ x ∷ []) ≡ true
some_append x [] = refl
some_append x (y ∷ xs) = refl

pieces_more : (word : List ℕ) (k : ℕ) → k < length word
    → factor_texts 1 (take (k + 1) word) ≡ factor_texts 1 (take k word) ++ factor_texts (k + 1)
    (get_or word k 0 ∷ [])
pieces_more word k lt =
    let len : 1 + length (take k word) ≡ k + 1 = omega (arith, length-take k word) in
    ap (factor_texts 1) (take_more word k 0 lt) ∙ factors_append 1 (get_or word k 0) (take k word)
    ∙ rw len refl

pub next_zero : (start word text : List ℕ) (k : ℕ) (joined : Bool) → Joined start word k text joined
    → k < length word → get_or word k 0 ≡ 0 → Joined start word (k + 1) text joined
next_zero start word text k joined so lt zero =
    let same : factor_texts 1 (take (k + 1) word) ≡ factor_texts 1 (take k word) =
    pieces_more word k lt ∙ ap (λ xs. factor_texts 1 (take k word) ++ xs)
    (none_more (k + 1) (get_or word k 0) zero) ∙ append-nil (factor_texts 1 (take k word)) in
    record { items = rw same so.items; some = rw same so.some }

pub next_piece : (start word text next : List ℕ) (k e : ℕ) (joined : Bool) → Joined start word k text joined
    → k < length word → get_or word k 0 ≡ e → e ≢ 0
    → next ≡ text ++ cond joined (42 ∷ factor_text (k + 1) e) (factor_text (k + 1) e)
    → Joined start word (k + 1) next true
next_piece start word text next k e joined so lt is some h =
    let done = factor_texts 1 (take k word) in
    let x = factor_text (k + 1) e in
    let more : factor_texts 1 (take (k + 1) word) ≡ done ++ x ∷ [] =
    pieces_more word k lt ∙ ap (λ d. done ++ factor_texts (k + 1) (d ∷ [])) is
    ∙ ap (λ xs. done ++ xs) (one_more (k + 1) e some) in
    record {
      items =
          h ∙ ap (λ (t : List ℕ). t ++ cond joined (42 ∷ x) x) so.items
          ∙ append_assoc start (join_with_byte 42 done) (cond joined (42 ∷ x) x)
          ∙ ap (λ (b : Bool). start ++ (join_with_byte 42 done ++ cond b (42 ∷ x) x)) so.some
          ∙ ap (λ (t : List ℕ). start ++ t) (sym (join_append x done))
          ∙ ap (λ (xs : List (List ℕ)). start ++ join_with_byte 42 xs) (sym more);
      some = rw more (sym (some_append x done));
    }

-- lines

header_is : (p n : ℕ) → codes "pgroup 1\nprime " ++
    (decimal p ++ (codes "\ngens " ++ (decimal n ++ codes "\n"))) ≡ header_text p n
header_is p n =
    ap (λ (t : List ℕ). codes "pgroup 1\nprime " ++ t)
    (sym (append_assoc (decimal p) (10 ∷ []) (codes "gens " ++ (decimal n ++ 10 ∷ []))))

pub head_from : (p q n : ℕ) (text : List ℕ)
    → text ≡ codes "pgroup 1\nprime " ++ (decimal p ++ (codes "\ngens " ++ (decimal n ++ codes "\n"))) → p ≡ q
    → text ≡ header_text q n
head_from p q n text h e = h ∙ header_is p n ∙ ap (λ (r : ℕ). header_text r n) e

pub line_at : (P : Presentation) (p : ℕ) (place : Place) (w text next : List ℕ)
    → next ≡ text ++ relation_line p (record { place = place; word = w }) → p ≡ P.prime → w ≡ word_at P place
    → next ≡ text ++ relation_line P.prime (relation_at P place)
line_at P p place w text next h e f =
    h ∙ ap (λ (q : ℕ). text ++ relation_line q (record { place = place; word = w })) e
    ∙ ap (λ (v : List ℕ). text ++ relation_line P.prime (record { place = place; word = v })) f

pub next_place : (P : Presentation) (f : ℕ → Place) (start text next : List ℕ) (m : ℕ)
    → text ≡ start ++ place_lines P (map f (range 1 m))
    → next ≡ text ++ relation_line P.prime (relation_at P (f (m + 1)))
    → next ≡ start ++ place_lines P (map f (range 1 (m + 1)))
next_place P f start text next m so h =
    let z : 1 + m ≡ m + 1 = omega arith in
    let more : map f (range 1 (m + 1)) ≡ map f (range 1 m) ++ f (m + 1) ∷ [] = ap (map f) (range-next 1 m)
    ∙ map-append f (range 1 m) ((1 + m) ∷ []) ∙ rw z refl in
    h ∙ ap (λ (t : List ℕ). t ++ relation_line P.prime (relation_at P (f (m + 1)))) so
    ∙ flat_map_more (λ q. relation_line P.prime (relation_at P q)) start (map f (range 1 m)) (f (m + 1))
    ∙ ap (λ (qs : List Place). start ++ place_lines P qs) (sym more)

pub next_row : (P : Presentation) (start text next : List ℕ) (m : ℕ)
    → text ≡ start ++ place_lines P (commutator_places m)
    → next ≡ text ++ place_lines P (row_places (m + 1))
    → next ≡ start ++ place_lines P (commutator_places (m + 1))
next_row P start text next m so h =
    let z : 1 + m ≡ m + 1 = omega arith in
    let one : flat_map row_places ((m + 1) ∷ []) ≡ row_places (m + 1) = append-nil (row_places (m + 1)) in
    let more : commutator_places (m + 1) ≡ commutator_places m ++ row_places (m + 1) =
    ap (flat_map row_places) (range-next 1 m) ∙ flat_map-append row_places (range 1 m) ((1 + m) ∷ [])
    ∙ rw z (ap (λ (qs : List Place). commutator_places m ++ qs) one) in
    h ∙ ap (λ (t : List ℕ). t ++ place_lines P (row_places (m + 1))) so
    ∙ append_assoc start (place_lines P (commutator_places m)) (place_lines P (row_places (m + 1)))
    ∙ ap (λ (t : List ℕ). start ++ t) (sym
    (flat_map-append (λ q. relation_line P.prime (relation_at P q)) (commutator_places m)
    (row_places (m + 1))))
    ∙ ap (λ (qs : List Place). start ++ place_lines P qs) (sym more)

line_cond : (p : ℕ) (r : Relation) (rs : List Relation) (b : Bool)
    → flat_map (λ r. line_text (relation_text p r)) (cond (not b) (r ∷ rs) rs)
    ≡ cond b [] (line_text (relation_text p r)) ++ flat_map (λ r. line_text (relation_text p r)) rs
line_cond p r rs true = refl
line_cond p r rs false = refl

lines_written : (P : Presentation) (qs : List Place)
    → flat_map (λ r. line_text (relation_text P.prime r))
    (filter (λ r. not (is_empty_word r.word)) (map (relation_at P) qs)) ≡ place_lines P qs
lines_written P [] = refl
lines_written P (q ∷ qs) =
    line_cond P.prime (relation_at P q) (filter (λ r. not (is_empty_word r.word)) (map (relation_at P) qs))
    (is_empty_word (word_at P q))
    ∙ ap (λ (t : List ℕ). relation_line P.prime (relation_at P q) ++ t) (lines_written P qs)

-- the header, the lines of the powers and those of the commutators
pub canonical_from : (P : Presentation) (p n : ℕ) (head powers text : List ℕ) → head ≡ header_text p n
    → p ≡ P.prime → n ≡ P.gens → powers ≡ head ++ place_lines P (power_places P.gens)
    → text ≡ powers ++ place_lines P (commutator_places P.gens) → text ≡ canonical P
canonical_from P p n head powers text h e f h1 h2 =
    let h0 : head ≡ header_text P.prime P.gens = h ∙ ap (λ (q : ℕ). header_text q n) e
    ∙ ap (header_text P.prime) f in
    h2 ∙ ap (λ (t : List ℕ). t ++ place_lines P (commutator_places P.gens)) (h1
    ∙ ap (λ (t : List ℕ). t ++ place_lines P (power_places P.gens)) h0)
    ∙ append_assoc (header_text P.prime P.gens) (place_lines P (power_places P.gens))
    (place_lines P (commutator_places P.gens))
    ∙ ap (λ (t : List ℕ). header_text P.prime P.gens ++ t)
    (sym (flat_map-append (λ q. relation_line P.prime (relation_at P q)) (power_places P.gens)
    (commutator_places P.gens)) ∙ sym (lines_written P (places P.gens)))
    ∙ regroup (line_text (codes "pgroup 1")) (line_text (codes "prime " ++ decimal P.prime))
    (line_text (codes "gens " ++ decimal P.gens))
    (flat_map (λ r. line_text (relation_text P.prime r)) (written P))
  where
    regroup : (a b c d : List ℕ) → (a ++ (b ++ c)) ++ d ≡ a ++ (b ++ (c ++ d))
    regroup a b c d = simp append_assoc

pub written_read : (P : Presentation) (q : Prime) (n : ℕ) (text : List ℕ) → text ≡ canonical P
    → IsPresentation P → prime_value q ≡ P.prime → n ≡ P.gens → n ≤ MOST_GENERATORS → read text ≡ Ok P
written_read P q n text h is e f few =
    ap read h ∙ canonical_read P is (subst (λ p. prime p ≡ Some p) e (prime_is q)) (omega (arith, f))
