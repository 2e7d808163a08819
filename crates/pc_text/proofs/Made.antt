-- A presentation that is made relation by relation.
use Rattle.std.proofs.Common.{◌≡◌, ℕ, ◌+◌, ◌<◌, ◌≤◌, List, [], ◌∷◌, ◌++◌, length, take, drop, get_or, refl}
use Rattle.std.proofs.Common.{sym, subst, ap, ◌∙◌, arith, add-one, drop-cons}
use Rattle.std.proofs.lemmas.List.{get_or-map, length-map, map-append, take_all, take_more}
use Rattle.power_commutator.specs.Presentations.{Presentation}
use Rattle.group_table.specs.Prime.{prime_value}
use Rattle.pc_group.specs.Parts.{elementary_abelian}
use Rattle.pc_text.specs.declared.relations.Relation as program
use Rattle.pc_text.specs.declared.texts.Content as program_text
use Rattle.pc_text.specs.FromRelations.{with_relations}
use Rattle.pc_text.specs.Texts.{presentation_of}
use Rattle.pc_text.specs.Rules.{IsPlace, IsRelation, AreNew, IsContent}
use Rattle.pc_text.specs.Views.{shown, all_shown, shown_content, with_relation}
use Rattle.pc_text.proofs.Given.{one_more, no_relations}

-- the presentation has the words of the first i relations, and the left sides of the others are new
pub record Made (c : program_text.Content) (i : ℕ) (made : Presentation) : Type 0 where
  pub is : made ≡ with_relations (prime_value c.generators.prime) c.generators.gens
      (all_shown (take i c.relations.items))
  pub new : AreNew (all_shown (take i c.relations.items)) (all_shown (drop i c.relations.items))

pub made_start : (c : program_text.Content) (made : Presentation) → IsContent (shown_content c)
    → made ≡ elementary_abelian (prime_value c.generators.prime) c.generators.gens → Made c 0 made
made_start c made good e = record {
  is = e
      ∙ no_relations (prime_value c.generators.prime) c.generators.gens;
  new = good.once;
}

front : (xs : List program.Relation) (i : ℕ) (x : program.Relation) → i < length xs → get_or xs i x ≡ x
    → all_shown (take (i + 1) xs) ≡ all_shown (take i xs) ++ shown x ∷ []
front xs i x lt at = ap all_shown (take_more xs i x lt) ∙ map-append shown (take i xs) (get_or xs i x ∷ [])
    ∙ rw at refl

back : (xs : List program.Relation) (i : ℕ) (x : program.Relation) → i < length xs → get_or xs i x ≡ x
    → all_shown (drop i xs) ≡ shown x ∷ all_shown (drop (i + 1) xs)
back xs i x lt at = ap all_shown (drop-cons xs i x lt) ∙ rw (at, add-one) refl

made_relation : (c : program_text.Content) (i : ℕ) (made : Presentation) (x : program.Relation)
    → IsContent (shown_content c) → Made c i made
    → i < length c.relations.items → get_or c.relations.items i x ≡ x
    → IsRelation made.prime made.gens (shown x)
made_relation c i made x good so lt at =
    let within : i < length (all_shown c.relations.items) =
    omega (arith, length-map c.relations.items shown) in
    let entry : get_or (all_shown c.relations.items) i (shown x) ≡ shown x =
    get_or-map shown c.relations.items i x (shown x) lt ∙ ap shown at in
    subst (λ P. IsRelation P.prime P.gens (shown x)) (sym so.is)
    (subst (IsRelation (prime_value c.generators.prime) c.generators.gens) entry
    (good.relations i (shown x) within))

made_next : (c : program_text.Content) (i : ℕ) (made next : Presentation) (x : program.Relation)
    → IsContent (shown_content c) → Made c i made
    → i < length c.relations.items → get_or c.relations.items i x ≡ x → next ≡ with_relation made (shown x)
    → Made c (i + 1) next
made_next c i made next x good so lt at e =
    let p = prime_value c.generators.prime in
    let n = c.generators.gens in
    let done = all_shown (take i c.relations.items) in
    let left : AreNew done (shown x ∷ all_shown (drop (i + 1) c.relations.items)) =
    subst (AreNew done) (back c.relations.items i x lt at) so.new in
    let relation = made_relation c i made x good so lt at in
    let place = subst (λ P. IsPlace P.gens x.place) so.is relation.place in
    record {
      is = e ∙ ap (λ P. with_relation P (shown x)) so.is ∙ one_more p n done (shown x) place left.0
          ∙ ap (with_relations p n) (sym (front c.relations.items i x lt at));
      new = subst (λ done. AreNew done (all_shown (drop (i + 1) c.relations.items)))
          (sym (front c.relations.items i x lt at)) left.1;
    }

-- the same, of the list that a loop goes over

pub next_relation : (c : program_text.Content) (xs : List program.Relation) (i : ℕ) (made : Presentation)
    (x : program.Relation) → IsContent (shown_content c) → Made c i made
    → xs ≡ c.relations.items → i < length xs → x ≡ get_or xs i x → IsRelation made.prime made.gens (shown x)
next_relation c xs i made x good so e lt is = made_relation c i made x good so (rw e at lt) (sym (rw e at is))

pub next_made : (c : program_text.Content) (xs : List program.Relation) (i : ℕ) (made next : Presentation)
    (x : program.Relation) → IsContent (shown_content c) → Made c i made
    → xs ≡ c.relations.items → i < length xs → x ≡ get_or xs i x → next ≡ with_relation made (shown x)
    → Made c (i + 1) next
next_made c xs i made next x good so e lt is set =
    made_next c i made next x good so (rw e at lt) (sym (rw e at is)) set

pub made_end : (c : program_text.Content) (i : ℕ) (made : Presentation) → Made c i made
    → length c.relations.items ≤ i → made ≡ presentation_of (shown_content c)
made_end c i made so le =
    so.is ∙ ap (λ xs. with_relations (prime_value c.generators.prime) c.generators.gens (all_shown xs))
    (take_all i c.relations.items le)
