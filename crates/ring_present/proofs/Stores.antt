-- What is kept of a ring depends on the lifts but for their heights, and grows by a degree.
use Rattle.std.proofs.Common.{◌≡◌, ℕ, suc, ◌<◌, ◌≤◌, ◌⊎◌, inl, inr, List, [], ◌∷◌, ◌++◌, length}
use Rattle.std.proofs.Common.{length-append, map, arith, ap, sym, ◌∙◌, refl}
use Rattle.std.specs.Prelude.{slice_index_or, Option, Some, None, IfSome, Result, Ok, Err, OnOk, OnErr}
use Rattle.std.proofs.lemmas.Bool.{cases_lt}
use Rattle.std.proofs.lemmas.List.{get_or_append_left, get_or_push, length_push}
use Rattle.std.proofs.lemmas.List.Elements.{All-append, All-weaker}
use mathlib.Core.Path.{subst}
use Rattle.limits.specs.declared.TheConstants.{GREATEST_DEGREE}
use Rattle.p_groups.specs.PGroups.{PGroup, largest_residue}
use Rattle.graded_polynomials.specs.Polynomials.{Polynomial}
use Rattle.graded_algebra.specs.Algebras.{degrees}
use Rattle.gc_poly.specs.Generators.{Generators}
use Rattle.presentation_rows.specs.Values.{vector, AreValues}
use Rattle.chain_lift.specs.Values.{LiftValue}
use Rattle.ring_completion.specs.Candidates.{AreSome}
use Rattle.cohomology_degree.specs.Rings.{cohomology, IsPresentation}
use Rattle.cohomology_degree.specs.Standard.{AreStandard}
use Rattle.cohomology_degree.specs.Degrees.{classes, degrees_of, lifted, kept, IsLiftBelow}
use Rattle.cohomology_degree.specs.Degrees.{AreValued, IsDegree, IsLower}
use Rattle.cohomology_degree.specs.Nexts.{IsNext, IsLiftOf}
use Rattle.ring_present.specs.Stores.{IsRingOf, IsRingStore}
use Rattle.cohomology_degree.specs.declared.degree.Valued.{Valued}
use Rattle.cohomology_degree.specs.declared.degree.Degree.{Degree}
use Rattle.cohomology_degree.specs.declared.next.Next.{Next}
use Rattle.cohomology_degree.proofs.Lists.{kept-at, length-kept}
use Rattle.cohomology_degree.proofs.Growing.{degree-stays}
use Rattle.cohomology_degree.proofs.Nexts.{above-new}

pub lifted-kept : (xs ys : List LiftValue) → map kept xs ≡ map kept ys → lifted xs ≡ lifted ys
lifted-kept [] [] e = refl
lifted-kept [] (y ∷ ys) e = absurd cc
lifted-kept (x ∷ xs) [] e = absurd cc
lifted-kept (x ∷ xs) (y ∷ ys) e =
    let t : map kept xs ≡ map kept ys = cc in let k : kept x ≡ kept y = cc in
    ap (λ (l : LiftValue). record { degree = l.degree; class = l.class } ∷ lifted xs) k
    ∙ ap (λ gs. record { degree = y.degree; class = y.class } ∷ gs) (lifted-kept xs ys t)

pub degrees-kept : (xs ys : List LiftValue) → map kept xs ≡ map kept ys → degrees_of xs ≡ degrees_of ys
degrees-kept [] [] e = refl
degrees-kept [] (y ∷ ys) e = absurd cc
degrees-kept (x ∷ xs) [] e = absurd cc
degrees-kept (x ∷ xs) (y ∷ ys) e =
    let t : map kept xs ≡ map kept ys = cc in let k : kept x ≡ kept y = cc in
    ap (λ (l : LiftValue). l.degree ∷ degrees_of xs) k ∙ ap (λ ds. y.degree ∷ ds) (degrees-kept xs ys t)

pub classes-kept : (G : PGroup) (xs ys : List LiftValue) → map kept xs ≡ map kept ys
    → classes G xs ≡ classes G ys
classes-kept G xs ys e = ap (map (λ g. record {
  degree = g.degree;
  class = vector (largest_residue G) g.class;
})) (lifted-kept xs ys e)

valued-kept : (G : PGroup) (d : ℕ) (xs ys : List LiftValue) (v : Valued) → classes G ys ≡ classes G xs
    → AreValued G d ys v → AreValued G d xs v
valued-kept G d xs ys v e A = record {
  prime = A.prime;
  width = A.width;
  some = subst (λ gs. AreSome (largest_residue G) (degrees gs) d v.monomials) e A.some;
  values = subst (λ gs. AreValues (largest_residue G) (cohomology G) gs v.monomials v.values.rows) e A.values;
}

degree-kept : (G : PGroup) (d : ℕ) (xs ys : List LiftValue) (D : Degree) → classes G ys ≡ classes G xs
    → IsDegree G d ys D → IsDegree G d xs D
degree-kept G d xs ys D e I = record {
  left = valued-kept G d xs ys D.left e I.left;
  kernel = I.kernel;
  kernel_is = I.kernel_is;
  standard = valued-kept G d xs ys D.standard e I.standard;
  others = I.others;
  all = subst (λ gs. AreStandard (largest_residue G) (cohomology G) gs d D.standard.monomials) e I.all;
  preimages_prime = I.preimages_prime;
  preimages_width = I.preimages_width;
  basis = I.basis;
  basis_is = I.basis_is;
  preimages = I.preimages;
}

below-kept : (G : PGroup) (n : ℕ) (x y : LiftValue) → kept x ≡ kept y → IsLiftBelow G n y → IsLiftBelow G n x
below-kept G n x y e b = record {
  group_is = ap (λ (l : LiftValue). l.group) e ∙ b.group_is;
  from_one = (let d = ap (λ (l : LiftValue). l.degree) e in let z = b.from_one in omega (arith, d, z));
  to_n = (let d = ap (λ (l : LiftValue). l.degree) e in let z = b.to_n in omega (arith, d, z));
}

pub lower-kept : (G : PGroup) (xs ys : List LiftValue) (Ds : List Degree) → map kept xs ≡ map kept ys
    → IsLower G ys Ds → IsLower G xs Ds
lower-kept G xs ys Ds e L = record {
  few = (let n = length-kept xs ys e in let f = L.few in omega (arith, n, f));
  lifts_are = λ k d l. below-kept G (length Ds) (slice_index_or xs k d) (slice_index_or ys k d)
      (kept-at xs ys e k d d l)
      (L.lifts_are k d (let n = length-kept xs ys e in omega (arith, n, l)));
  degrees_are = record {
    count = L.degrees_are.count;
    each = λ j D l. degree-kept G (suc j) xs ys (slice_index_or Ds j D) (sym (classes-kept G xs ys e))
        (L.degrees_are.each j D l);
  };
}

ring-kept : (G : PGroup) (gens : Generators) (xs ys : List LiftValue) (rs : List Polynomial)
    (Ds : List Degree) → map kept xs ≡ map kept ys → IsRingOf G gens ys rs Ds → IsRingOf G gens xs rs Ds
ring-kept G gens xs ys rs Ds e R = record {
  high = R.high;
  prime = R.prime;
  presentation = subst (λ gs. IsPresentation G (length Ds) gs rs)
      (sym (classes-kept G xs ys e)) R.presentation;
  lower = lower-kept G xs ys Ds e R.lower;
}

empty-kept : (xs ys : List LiftValue) → map kept xs ≡ map kept ys → ys ≡ [] → xs ≡ []
empty-kept [] ys e z = refl
empty-kept (x ∷ xs) ys e z = absurd (let n = length-kept (x ∷ xs) ys e in let m = ap
    (λ (l : List LiftValue). length l) z in omega (arith, n, m))

pub store-kept : (group : Option PGroup) (gens : Generators) (xs ys : List LiftValue) (rs : List Polynomial)
    (Ds : List Degree) → map kept xs ≡ map kept ys
    → IsRingStore group gens ys rs Ds → IsRingStore group gens xs rs Ds
store-kept None gens xs ys rs Ds e S = record {
  degrees_of_gens = S.degrees_of_gens ∙ sym (degrees-kept xs ys e);
  through = record {
    no_generators = empty-kept xs ys e S.through.no_generators;
    no_relations = S.through.no_relations;
    no_degrees = S.through.no_degrees;
  };
}
store-kept (Some G) gens xs ys rs Ds e S = record {
  degrees_of_gens = S.degrees_of_gens ∙ sym (degrees-kept xs ys e);
  through = ring-kept G gens xs ys rs Ds e S.through;
}

-- what a ring of H, or one through degree 0, has of H
pub record IsBefore (H : PGroup) (lifts : List LiftValue) (rs : List Polynomial)
    (Ds : List Degree) : Type 0 where
  pub lower : IsLower H lifts Ds
  pub presentation : IsPresentation H (length Ds) (classes H lifts) rs

pub before-of : (group : Option PGroup) (gens : Generators) (lifts : List LiftValue) (rs : List Polynomial)
    (Ds : List Degree) (H : PGroup)
    → IfSome group (λ G. G ≡ H) → IsRingStore group gens lifts rs Ds → IsBefore H lifts rs Ds
before-of None gens lifts rs Ds H s S =
    subst (λ ls. IsBefore H ls rs Ds) (sym S.through.no_generators)
    (subst (λ rs. IsBefore H [] rs Ds) (sym S.through.no_relations)
    (subst (λ Ds. IsBefore H [] [] Ds) (sym S.through.no_degrees) (record {
      lower = record {
        few = omega arith;
        lifts_are = λ k d l. absurd (omega (arith, l));
        degrees_are = record { count = refl; each = λ j D l. absurd (omega (arith, l)) };
      };
      presentation = record { generators_are = refl; relations_are = refl };
    })))
before-of (Some G) gens lifts rs Ds H s S =
    subst (λ K. IsBefore K lifts rs Ds) s
    (record { lower = S.through.lower; presentation = S.through.presentation })

-- the ring with the next degree
pub ring-next : (G : PGroup) (gens : Generators) (lifts all : List LiftValue) (rs total : List Polynomial)
    (Ds grown : List Degree) (x : Next) → IsBefore G lifts rs Ds → length Ds < GREATEST_DEGREE
    → IsNext G lifts rs (length Ds) x → gens ≡ x.gens → all ≡ lifts ++ x.lifts.items
    → total ≡ rs ++ x.relations.items → grown ≡ Ds ++ x.degree ∷ [] → IsRingOf G gens all total grown
ring-next G gens lifts all rs total Ds grown x B s N eg el er ed =
    subst (λ gs. IsRingOf G gs all total grown) (sym eg)
    (subst (λ ls. IsRingOf G x.gens ls total grown) (sym el)
    (subst (λ ts. IsRingOf G x.gens (lifts ++ x.lifts.items) ts grown) (sym er)
    (subst (λ Es. IsRingOf G x.gens (lifts ++ x.lifts.items) (rs ++ x.relations.items) Es) (sym ed) ring)))
  where
    count : length (Ds ++ x.degree ∷ []) ≡ suc (length Ds)
    count = let c = length_push Ds x.degree in omega (arith, c)

    old-lift : (l : LiftValue) → IsLiftBelow G (length Ds) l → IsLiftBelow G (length (Ds ++ x.degree ∷ [])) l
    old-lift l b = record {
      group_is = b.group_is;
      from_one = b.from_one;
      to_n = (let z = b.to_n in omega (arith, z, count));
    }

    new-lift : (l : LiftValue) → IsLiftOf G (suc (length Ds)) l
        → IsLiftBelow G (length (Ds ++ x.degree ∷ [])) l
    new-lift l b = record {
      group_is = b.group_is;
      from_one = (let z = b.degree_is in omega (arith, z));
      to_n = (let z = b.degree_is in omega (arith, z, count));
    }

    each : (e : ℕ) (D : Degree) → (e < length Ds) ⊎ (length Ds ≤ e) → e < suc (length Ds)
        → IsDegree G (suc e) (lifts ++ x.lifts.items) (slice_index_or (Ds ++ x.degree ∷ []) e D)
    each e D (inl b) l = subst (λ d. IsDegree G (suc e) (lifts ++ x.lifts.items) d)
        (sym (get_or_append_left Ds (x.degree ∷ []) D e b))
        (degree-stays G (suc e) lifts x.lifts.items
        (above-new G (length Ds) (suc e) x.lifts.items (omega (arith, b)) N.lifts_are) (slice_index_or Ds e D)
        (B.lower.degrees_are.each e D b))
    each e D (inr b) l =
        let s : length Ds ≡ e = omega (arith, b, l) in
        subst (λ d. IsDegree G (suc e) (lifts ++ x.lifts.items) d) (sym (get_or_push Ds x.degree D e s))
        (subst (λ k. IsDegree G (suc k) (lifts ++ x.lifts.items) x.degree) s N.degree_is)

    ring : IsRingOf G x.gens (lifts ++ x.lifts.items) (rs ++ x.relations.items) (Ds ++ x.degree ∷ [])
    ring = record {
      high = omega (arith, count, s);
      prime = ap (λ (g : Generators). g.prime) N.gens_are;
      presentation = subst (λ n. IsPresentation G n (classes G (lifts ++ x.lifts.items))
          (rs ++ x.relations.items)) (sym count) N.presentation;
      lower = record {
        few = (let a = length-append lifts x.lifts.items in let b = B.lower.few in let n = N.few in omega
            (arith, a, b, n, count));
        lifts_are = All-append (IsLiftBelow G (length (Ds ++ x.degree ∷ []))) lifts x.lifts.items
            (All-weaker (IsLiftBelow G (length Ds))
            (IsLiftBelow G (length (Ds ++ x.degree ∷ []))) old-lift lifts B.lower.lifts_are)
            (All-weaker (IsLiftOf G (suc (length Ds)))
            (IsLiftBelow G (length (Ds ++ x.degree ∷ []))) new-lift x.lifts.items N.lifts_are);
        degrees_are = record {
          count = refl;
          each = λ e D l. each e D (cases_lt e (length Ds)) (omega (arith, l, count));
        };
      };
    }

-- a store of the same but for the heights of the lifts
pub store-same : (group group' : Option PGroup) (gens gens' : Generators) (lifts lifts' : List LiftValue)
    (rs rs' : List Polynomial) (Ds Ds' : List Degree) → group' ≡ group → gens' ≡ gens
    → map kept lifts' ≡ map kept lifts → rs' ≡ rs → Ds' ≡ Ds → IsRingStore group gens lifts rs Ds
    → IsRingStore group' gens' lifts' rs' Ds'
store-same group group' gens gens' lifts lifts' rs rs' Ds Ds' eg en el er ed S =
    subst (λ g. IsRingStore g gens' lifts' rs' Ds') (sym eg)
    (subst (λ k. IsRingStore group k lifts' rs' Ds') (sym en)
    (subst (λ r. IsRingStore group gens lifts' r Ds') (sym er)
    (subst (λ D. IsRingStore group gens lifts' rs D) (sym ed)
    (store-kept group gens lifts' lifts rs Ds el S))))

pub store-known : (G : PGroup) (group : Option PGroup) (gens : Generators) (lifts : List LiftValue)
    (rs : List Polynomial) (Ds : List Degree) → group ≡ Some G
    → gens.degrees ≡ degrees_of lifts → IsRingOf G gens lifts rs Ds → IsRingStore group gens lifts rs Ds
store-known G group gens lifts rs Ds e d R =
    subst (λ g. IsRingStore g gens lifts rs Ds) (sym e) (record { degrees_of_gens = d; through = R })

pub lifted-append : (xs ys : List LiftValue) → lifted (xs ++ ys) ≡ lifted xs ++ lifted ys
lifted-append [] ys = refl
lifted-append (x ∷ xs) ys = ap (λ gs. record { degree = x.degree; class = x.class } ∷ gs)
    (lifted-append xs ys)

pub on-err : {T E P : Type 0} (r : Result T E) → P → OnErr r P
on-err (Ok x) p = tt
on-err (Err e) p = p

pub on-err-six : {T E A B C D F H P : Type 0} (r : Result T E) → OnErr r A → OnErr r B → OnErr r C → OnErr r D
    → OnErr r F → OnErr r H → (A → B → C → D → F → H → P) → OnErr r P
on-err-six (Ok x) a b c d f h g = tt
on-err-six (Err e) a b c d f h g = g a b c d f h

pub after : {T E P Q R A B C D F S : Type 0} (r : Result T E) → OnOk r P → OnOk r Q → OnOk r R
    → (P → Q → R → S)
    → OnErr r A → OnErr r B → OnErr r C → OnErr r D → OnErr r F → (A → B → C → D → F → S) → S
after (Ok x) p q r f a b c d e g = f p q r
after (Err x) p q r f a b c d e g = g a b c d e

pub after-four : {T E P Q A B C D S : Type 0} (r : Result T E) → OnOk r P → OnOk r Q → (P → Q → S)
    → OnErr r A → OnErr r B → OnErr r C → OnErr r D → (A → B → C → D → S) → S
after-four (Ok x) p q f a b c d g = f p q
after-four (Err x) p q f a b c d g = g a b c d
