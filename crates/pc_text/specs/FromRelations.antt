-- The presentation that relations give.
use Rattle.std.specs.Prelude.{ℕ, ◌-◌, List, [], ◌∷◌, map, if◌then◌else◌, replicate}
use Rattle.power_commutator.specs.Presentations.{Presentation, range}
use Rattle.pc_text.specs.declared.place.Place.{Place}
use Rattle.pc_text.specs.declared.place.Place.TheVariants.{Power, Commutator}
use Rattle.pc_text.specs.Relations.{Relation, same_place}

-- the word with this left side, and the empty word where no relation has it
abbrev pub word_given : ℕ → List Relation → Place → List ℕ
word_given n [] place = replicate n 0
word_given n (r ∷ relations) place = if same_place place r.place then r.word else word_given n relations place

-- the words w_1 to w_n, and the words c_{j,1} to c_{j,j-1}
abbrev pub powers_given : ℕ → List Relation → List (List ℕ)
powers_given n relations = map (λ i. word_given n relations (Power i)) (range 1 n)

abbrev pub commutators_given : ℕ → List Relation → ℕ → List (List ℕ)
commutators_given n relations j = map (λ i. word_given n relations (Commutator j i)) (range 1 (j - 1))

abbrev pub with_relations : ℕ → ℕ → List Relation → Presentation
with_relations p n relations = record {
  prime = p;
  gens = n;
  powers = powers_given n relations;
  commutators = map (commutators_given n relations) (range 1 n);
}
