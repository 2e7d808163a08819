-- Lifts of classes to chain maps of a minimal resolution, and the products of classes by lifts (Carlson,
-- Townsley, Valeri-Elizondo and Zhang, "Cohomology Rings of Finite Groups", chapter 4).
use Rattle.std.specs.Prelude.{ℕ, zero, suc, List}
use Rattle.group_modules.specs.Module.{Module, Term, lin, ops, times}
use Rattle.group_modules.specs.Operations as operations
use Rattle.group_modules.specs.Operations.{Ops, linear}
use Rattle.group_modules.specs.Field.{Below, Fp, residue}
use Rattle.group_modules.specs.Tables.{Group, monoid, Table, terms, unit}
use Rattle.group_modules.specs.Resolutions.{rank}
use Rattle.radical_layers.specs.Coordinates.{Coordinates}
use Rattle.resolution_stages.specs.Definitions.{StageRows}
use Rattle.resolution_stages.specs.Claims.{row_table, section_table}

-- e + j, by recursion on j
abbrev pub ahead : ℕ → ℕ → ℕ
ahead e zero = e
ahead e (suc j) = suc (ahead e j)

-- the maps of basis elements that begin with u, and take x of degree d + 1 to the section of the value at the
-- boundary of x
abbrev pub steps : {E : Type 0} (basis : ℕ → Type 0)
    → ((d : ℕ) → basis (suc d) → List (operations.Term E (basis d)))
    → (M : ℕ → Ops E) → ((d : ℕ) → (M d).of → (M (suc d)).of) → (basis 0 → (M 0).of) → (d : ℕ) → basis d
    → (M d).of
steps basis boundary M s u zero x = u x
steps basis boundary M s u (suc d) x = s d (linear (M d) (steps basis boundary M s u d) (boundary d x))

module _ {n : ℕ} (q : ℕ) (Γ : Group n) (K : Coordinates q Γ) (S : StageRows) where
  -- P_d, the free module of degree d
  abbrev pub free : ℕ → Module (suc q) (monoid Γ)
  free d = Table q Γ (rank q Γ S.ranks d)

  -- a class of degree d: a number modulo p for each basis element
  abbrev pub Class : ℕ → Type 0
  Class d = Below (rank q Γ S.ranks d) → Below (suc q)

  -- the sum over the blocks k of c(k) times the sum of block k of v
  abbrev pub pair : (d : ℕ) → Class d → (free d).of → Below (suc q)
  pair d c v = lin (Fp q (monoid Γ)) c (terms q Γ (rank q Γ S.ranks d) v)

  -- the boundary of basis element i of degree d + 1, as a formal sum
  abbrev pub row_terms : (d : ℕ) → Below (rank q Γ S.ranks (suc d))
      → List (Term (monoid Γ) (Below (rank q Γ S.ranks d)))
  row_terms d i = terms q Γ (rank q Γ S.ranks d) (row_table q Γ K S d i)

  -- the lift of a class c of degree e: basis element i of degree e goes to c(i) 1, and the maps of higher
  -- degrees are found by the section
  abbrev pub lift : (e : ℕ) → Class e → (j : ℕ) → Below (rank q Γ S.ranks (ahead e j)) → (free j).of
  lift e c =
      steps (λ j. Below (rank q Γ S.ranks (ahead e j))) (λ j. row_terms (ahead e j)) (λ j. ops (free j))
      (section_table q Γ K S)
      (λ i. times (free 0).add (free 0).zero (c i).0 (unit q Γ 1 (residue 0 0)))

  -- the product of a class of degree j with c: its value at what the lift of c takes the basis to
  abbrev pub product : (e : ℕ) → Class e → (j : ℕ) → Class j → Class (ahead e j)
  product e c j a i = pair j a (lift e c j i)
