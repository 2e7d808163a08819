-- Classes as rows and as functions on the basis.
use Rattle.std.specs.Prelude.{◌≡◌, ℕ, suc, ◌≤◌, ◌<◌, ◌⊎◌, ◌↔◌, List, length}
use Rattle.std.proofs.Common.{sym, ◌∙◌, ap, arith, inl, inr}
use Rattle.std.proofs.lemmas.Bool.{cases_lt}
use Rattle.std.proofs.lemmas.List.{get_or_past}
use Rattle.std.proofs.Math.Nat.{mod-eq_of_lt}
use mathlib.Core.Path.{fun_ext, subst}
use Rattle.group_modules.specs.Field.{Below, residue}
use Rattle.group_modules.specs.Tables.{monoid}
use Rattle.linear_algebra.specs.Rows.{IsRow, entry}
use Rattle.resolution_stages.proofs.FromDefinitions.{resolution-claims}
use Rattle.p_groups.specs.PGroups.{PGroup, largest_residue, group}
use Rattle.p_groups.proofs.Fields.{residues, field}
use Rattle.group_algebra.specs.Coordinates.{layer_coordinates}
use Rattle.min_res.specs.Stages.{stage_rows, rank_of}
use Rattle.min_res.proofs.StageRows.{stage_rows_are}
use Rattle.chain_maps.specs.Lifts.{Class}
use Rattle.chain_maps.specs.Vectors.{Vector, vector, entries, extended}
use Rattle.chain_maps.proofs.Vectors.{entries-row, vector-claims, extended-at, extended-past}
use Rattle.bar_complex.specs.Cochains.{IsCoboundary, AreCohomologous}
use Rattle.bar_comparison.specs.Comparison.{bar_cocycle}
use Rattle.bar_comparison.proofs.Classes.{only-coboundary}
use Rattle.bar_comparison.proofs.Stages.{stages}
use Rattle.cohomology_algebra.proofs.Extended.{extended-entries}
use Rattle.group_cocycles.specs.Cocycles.{GroupCochain, IsClass, IsClassOf, cocycle_of}

module _ (G : PGroup) (d : ℕ) where
  abbrev q : ℕ
  q = largest_residue G

  abbrev b : ℕ
  b = rank_of G d

  -- a class as a function on the basis
  abbrev BasisClass : Type 0
  BasisClass = Class q (group G) (layer_coordinates G) (stage_rows G) d

  -- its row
  abbrev pub row_of_class : BasisClass → List ℕ
  row_of_class c = entries b (extended b c)

  pub row-is-class : (c : BasisClass) → IsClass G d (row_of_class c)
  row-is-class c = subst (λ p. IsRow p b (row_of_class c)) (residues G) (entries-row q b (extended b c))

  -- the function of the row of a class is the class
  pub class-of-row : (c : BasisClass) → (λ (i : Below b). vector q (row_of_class c) i.0) ≡ c
  class-of-row c =
      fun_ext (λ i.
      ap (λ (v : Vector q). v i.0) ((vector-claims q b).of_vector (extended b c) (extended-past b c))
      ∙ extended-at b c i)

  -- the row of the function of a row is the row
  pub row-of-row : (x : List ℕ) → IsClass G d x → row_of_class (λ i. vector q x i.0) ≡ x
  row-of-row x r =
      ap (entries b) (extended-entries b (vector q x) (λ k l. ap (residue q) (get_or_past x k 0
      (let n : length x ≡ b = r.length_is in omega (arith, n, l)))))
      ∙ (vector-claims q b).of_row x (subst (λ p. IsRow p b x) (sym (residues G)) r)

  -- the class of a cochain by its row
  pub class-row : (u : GroupCochain G) (c : BasisClass)
      → ((v : BasisClass) → AreCohomologous q (monoid (group G)) d
      (bar_cocycle q (group G) (layer_coordinates G) (stage_rows G) d v) u ↔ (v ≡ c))
      → IsClassOf G d u (row_of_class c)
  class-row u c h = record {
    class = row-is-class c;
    cohomologous = (h (λ i. vector q (row_of_class c) i.0)).1 (class-of-row c);
    only = λ y r a. sym (row-of-row y r) ∙ ap row_of_class ((h (λ i. vector q y i.0)).0 a);
  }

  -- a class whose cocycle is a coboundary is 0
  pub coboundary-zero : (x : List ℕ) → IsClass G d x → IsCoboundary q (monoid (group G)) d (cocycle_of G d x)
      → (k : ℕ) → entry x k ≡ 0
  coboundary-zero x r h k =
      go (cases_lt k b)
    where
      c-zero : ◌≡◌ {A = BasisClass} (λ i. vector q x i.0) (λ i. residue q 0)
      c-zero = only-coboundary (stages q (group G) (layer_coordinates G) (stage_rows G)
          (resolution-claims q (field G) (group G) (layer_coordinates G) (stage_rows G) (stage_rows_are G))) d
          (λ i. vector q x i.0) h

      go : (k < b) ⊎ (b ≤ k) → entry x k ≡ 0
      go (inl l) =
          sym (mod-eq_of_lt (subst (λ p. entry x k < p) (sym (residues G)) (r.below k l)))
          ∙ ap (λ (c : BasisClass). (c (k, l)).0) c-zero
          ∙ mod-eq_of_lt (let z : 0 < suc q = omega arith in z)
      go (inr l) = get_or_past x k 0 (let n : length x ≡ b = r.length_is in omega (arith, n, l))
