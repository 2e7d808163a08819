-- The table of degree 0, and the tables of a ring.
use Rattle.std.proofs.Common.{◌≡◌, ℕ, zero, suc, ◌<◌, List, [], ◌∷◌, ◌++◌, length, map, inl, inr, arith}
use Rattle.std.proofs.Common.{ap}
use Rattle.std.proofs.Common.{sym, ◌∙◌, refl}
use Rattle.std.specs.Prelude.{Option, Some, None, IfSome, slice_index_or}
use Rattle.std.proofs.lemmas.List.{append-nil}
use mathlib.Core.Path.{subst}
use Rattle.p_groups.specs.PGroups.{PGroup, largest_residue}
use Rattle.graded_polynomials.specs.Monomials.{IsMonomial, IsWithin}
use Rattle.graded_polynomials.specs.Polynomials.{Polynomial}
use Rattle.graded_polynomials.specs.Texts.{power}
use Rattle.gc_poly.specs.Generators.{Generators}
use Rattle.chain_lift.specs.Values.{LiftValue}
use Rattle.ring_completion.specs.Candidates.{AreCandidates, AreSome}
use Rattle.ring_degree.specs.Tables.{AreTables, AreTablesOf, standard_at}
use Rattle.ring_degree.specs.declared.table.Table.{Table}
use Rattle.cohomology_degree.specs.Degrees.{kept}
use Rattle.cohomology_degree.specs.Graded.{graded_classes}
use Rattle.cohomology_degree.specs.KnownTables.{AreCandidatesOf, HasTables}
use Rattle.ring_present.specs.KnownTables.{IsCandidateStore, IsFirst, IsTableStore}
use Rattle.cohomology_degree.specs.Rings.{cohomology}
use Rattle.ring_present.specs.Stores.{IsRingStore}
use Rattle.cohomology_degree.specs.declared.degree.Degree.{Degree}
use Rattle.ring_present.proofs.Stores.{classes-kept, degrees-kept}

no-generator : (i : ℕ) → IsWithin [] (power i 1) → ⊥
no-generator zero w = w
no-generator (suc i) w = w

module _ (G : PGroup) (t : Table) (one : t.standard ≡ [] ∷ []) where
  only : (q e : ℕ) → e < 1 → AreSome q [] e (standard_at (t ∷ []) e)
  only q zero l = subst (AreSome q [] 0) (sym one) (record {
    each = λ i b. here i b;
    descending = λ i j a b. absurd (omega (arith, a, b));
  })
    where
      here : (i : ℕ) → i < 1 → IsMonomial q [] 0 (slice_index_or ([] ∷ []) i [])
      here zero b = record { within = tt; trimmed = tt; fitting = refl; degree_is = refl }
      here (suc i) b = absurd (omega (arith, b))
  only q (suc e) l = absurd (omega (arith, l))

  first-tables : HasTables G 0 [] (t ∷ [])
  first-tables = record {
    shape = record {
      monomials = λ e l. only (largest_residue G) e l;
      products = λ e l. record {
        count = λ i b. absurd (omega (arith, b));
        primes = λ i m b. absurd (omega (arith, b));
        widths = λ i m b. absurd (omega (arith, b));
        rows = λ i b. absurd (omega (arith, b));
        counts = λ i b. absurd (omega (arith, b));
      };
    };
    are = record {
      count = refl;
      one = one;
      standard = record {
        some = λ e l. absurd (omega (arith, l));
        each = λ e k l. absurd (omega (arith, l));
        all = λ e m l. absurd (omega (arith, l));
      };
      products = record {
        reduced = λ i e s I. absurd (no-generator i I.within);
        value_is = λ i e s I. absurd (no-generator i I.within);
      };
    };
  }

-- the tables of the ring of H, or that of degree 0
pub tables-before : (group : Option PGroup) (gens : Generators) (lifts : List LiftValue)
    (rs : List Polynomial) (Ds : List Degree) (tables first : List Table) (H : PGroup)
    → IfSome group (λ G. G ≡ H)
    → IsRingStore group gens lifts rs Ds → IsTableStore group lifts Ds tables → IsFirst tables first
    → HasTables H (length Ds) lifts (tables ++ first)
tables-before None gens lifts rs Ds tables first H s S T (inl f) =
    subst (λ ls. HasTables H (length Ds) ls (tables ++ first)) (sym S.through.no_generators)
    (subst (λ (Es : List Degree). HasTables H (length Es) [] (tables ++ first)) (sym S.through.no_degrees)
    (subst (λ ts. HasTables H 0 [] (ts ++ first)) (sym f.0)
    (subst (λ ts. HasTables H 0 [] ts) (sym f.1.alone) (first-tables H f.1.table f.1.one))))
tables-before None gens lifts rs Ds tables first H s S T (inr f) =
    absurd (let e = ap (λ (ts : List Table). length ts) T in omega (arith, e, f.0))
tables-before (Some G) gens lifts rs Ds tables first H s S T (inl f) =
    absurd (let e = ap (λ (ts : List Table). length ts) f.0 in let c = T.are.count in omega (arith, e, c))
tables-before (Some G) gens lifts rs Ds tables first H s S T (inr f) =
    subst (λ K. HasTables K (length Ds) lifts (tables ++ first)) s
    (subst (HasTables G (length Ds) lifts) (sym (ap (λ ts. tables ++ ts) f.1 ∙ append-nil tables)) T)

-- they depend on the lifts but for their heights
pub tables-kept : (G : PGroup) (n : ℕ) (xs ys : List LiftValue) (tables : List Table)
    → map kept xs ≡ map kept ys → HasTables G n ys tables → HasTables G n xs tables
tables-kept G n xs ys tables e T = record {
  shape = subst (λ ds. AreTables (record { prime = G.table.p; degrees = ds }) tables)
      (sym (degrees-kept xs ys e)) T.shape;
  are = subst (λ gs. AreTablesOf (largest_residue G) (graded_classes G) gs n tables)
      (sym (classes-kept G xs ys e)) T.are;
}

pub table-store-same : (group group' : Option PGroup) (lifts lifts' : List LiftValue) (Ds Ds' : List Degree)
    (tables tables' : List Table) → group' ≡ group → map kept lifts' ≡ map kept lifts → Ds' ≡ Ds
    → tables' ≡ tables → IsTableStore group lifts Ds tables → IsTableStore group' lifts' Ds' tables'
table-store-same group group' lifts lifts' Ds Ds' tables tables' eg el ed et T =
    subst (λ g. IsTableStore g lifts' Ds' tables') (sym eg)
    (subst (λ (Es : List Degree). IsTableStore group lifts' Es tables') (sym ed)
    (subst (λ ts. IsTableStore group lifts' Ds ts) (sym et) (same group T)))
  where
    same : (o : Option PGroup) → IsTableStore o lifts Ds tables → IsTableStore o lifts' Ds tables
    same None t = t
    same (Some G) t = tables-kept G (length Ds) lifts' lifts tables el t

pub table-store-known : (G : PGroup) (group : Option PGroup) (lifts : List LiftValue) (Ds : List Degree)
    (tables : List Table) → group ≡ Some G → HasTables G (length Ds) lifts tables
    → IsTableStore group lifts Ds tables
table-store-known G group lifts Ds tables e T = subst (λ g. IsTableStore g lifts Ds tables) (sym e) T

-- the same of candidates
pub candidates-kept : (G : PGroup) (d : ℕ) (xs ys : List LiftValue) (ms : List (List ℕ))
    → map kept xs ≡ map kept ys → AreCandidatesOf G d ys ms → AreCandidatesOf G d xs ms
candidates-kept G d xs ys ms e C =
    subst (λ gs. AreCandidates (largest_residue G) (cohomology G) gs d ms) (sym (classes-kept G xs ys e)) C

pub candidate-store-same : (group group' : Option PGroup) (lifts lifts' : List LiftValue)
    (Ds Ds' : List Degree) (ms ms' : List (List ℕ)) → group' ≡ group → map kept lifts' ≡ map kept lifts
    → Ds' ≡ Ds → ms' ≡ ms
    → IsCandidateStore group lifts Ds ms → IsCandidateStore group' lifts' Ds' ms'
candidate-store-same group group' lifts lifts' Ds Ds' ms ms' eg el ed em C =
    subst (λ g. IsCandidateStore g lifts' Ds' ms') (sym eg)
    (subst (λ (Es : List Degree). IsCandidateStore group lifts' Es ms') (sym ed)
    (subst (λ xs. IsCandidateStore group lifts' Ds xs) (sym em) (same group C)))
  where
    same : (o : Option PGroup) → IsCandidateStore o lifts Ds ms → IsCandidateStore o lifts' Ds ms
    same None c = c
    same (Some G) c = candidates-kept G (length Ds) lifts' lifts ms el c

pub candidate-store-known : (G : PGroup) (group : Option PGroup) (lifts : List LiftValue) (Ds : List Degree)
    (ms : List (List ℕ)) → group ≡ Some G → AreCandidatesOf G (length Ds) lifts ms
    → IsCandidateStore group lifts Ds ms
candidate-store-known G group lifts Ds ms e C = subst (λ g. IsCandidateStore g lifts Ds ms) (sym e) C

pub candidates-at : (group : Option PGroup) (lifts : List LiftValue) (Ds : List Degree) (ms : List (List ℕ))
    (G : PGroup) → group ≡ Some G → IsCandidateStore group lifts Ds ms
    → AreCandidatesOf G (length Ds) lifts ms
candidates-at group lifts Ds ms G e C = subst (λ g. IsCandidateStore g lifts Ds ms) e C

pub no-candidates : (group : Option PGroup) (lifts : List LiftValue) (Ds : List Degree) (ms : List (List ℕ))
    → group ≡ None → IsCandidateStore group lifts Ds ms → ms ≡ []
no-candidates group lifts Ds ms e C = subst (λ g. IsCandidateStore g lifts Ds ms) e C
