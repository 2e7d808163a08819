-- The parameters that are chosen by classes of candidates are those of the subgroups that are told, whose
-- ranks are low.
use Rattle.std.proofs.Common.{◌≡◌, ◌∙◌, ◌⊎◌, inl, inr, ℕ, ◌<◌, ◌≤◌, ◌^◌, List, [], ◌∷◌, length, map, refl}
use Rattle.std.proofs.Common.{sym, ap, subst, arith, Option}
use Rattle.std.specs.Prelude.{All}
use Rattle.std.specs.List.{AllByRecursion as Each}
use Rattle.std.proofs.Math.Nat.{pow-le-pow_left}
use Rattle.std.proofs.lemmas.Bool.{cases_lt}
use Rattle.std.proofs.lemmas.List.Elements.{All-from_recursion}
use Rattle.std.proofs.lemmas.Nat.{pow_below}
use Rattle.group_table.specs.Prime.{prime_value}
use Rattle.group_table.specs.declared.Prime.{Prime}
use Rattle.group_table.specs.declared.Prime.TheVariants.{P2, P3, P5, P7}
use Rattle.linear_algebra.specs.Modular.{IsSmallPrime}
use Rattle.p_groups.specs.PGroups.{PGroup, largest_residue, order_of, prime_of}
use Rattle.elementary_subgroups.specs.Bases.{NumberedSubgroup, IsSubgroupList, IsSubgroupOf}
use Rattle.elementary_subgroups.specs.Sets.{IsIn}
use Rattle.elementary_subgroups.proofs.NumberedLists.{subgroup_in}
use Rattle.subgroup_list.proofs.OwnTables.{size_small}
use Rattle.graded_polynomials.specs.Polynomials.{Polynomial}
use Rattle.graded_algebra.specs.Algebras.{Generator, degrees}
use Rattle.graded_algebra.specs.Vectors.{Vector}
use Rattle.graded_algebra.proofs.SpansUnique.{span-generators-unique}
use Rattle.presentation_rows.specs.Values.{vector}
use Rattle.param_test.specs.Bounds.{greatest}
use Rattle.param_test.specs.Parameters.{IsFoundIn}
use Rattle.param_test.specs.Tables.{CandidateValue}
use Rattle.chain_lift.specs.Embeddings.{elementary}
use Rattle.ring_present.specs.Rings.{cohomology, dual_basis, IsPresentation}
use Rattle.ring_present.specs.Values.{generators_of}
use Rattle.ring_present.proofs.RelationsOver.{degrees-are}
use Rattle.coho_report.specs.Choices.{IsChosen}
use Rattle.coho_report.specs.Parameters.{own_generators, class_of, IsRestriction, IsRestricted, AreParameters}
use Rattle.coho_report.specs.Related.{AreRelated}
use Rattle.coho_report.specs.Restrictors.{IsClassOf, IsFormOf, IsRestrictorOf}
use Rattle.coho_report.specs.Subgroups.{IsImage, IsToldOf}
use Rattle.coho_report.specs.Tables.{generators_by, IsTabled}
use Rattle.coho_report.specs.Values.{SubgroupValue}
use Rattle.coho_report.specs.declared.candidates.Candidate.{Candidate}
use Rattle.coho_report.specs.declared.restrictors.Restrictor.{Restrictor}

-- a power of a number above 1 that is at most 2^8 has an exponent of at most 8
low_exponent : (p r : ℕ) → 1 < p → p ^ r ≤ 256 → r ≤ 8
low_exponent p r h small = go (cases_lt 8 r)
  where
    go : (8 < r) ⊎ (r ≤ 8) → r ≤ 8
    go (inl above) =
        let two : 2 ^ r ≤ p ^ r = pow-le-pow_left {n = 2} {m = p} h r in
        let more : 2 ^ 8 < 2 ^ r = pow_below 8 r above in
        absurd (omega (arith, two, more, small))
    go (inr low) = low

prime_is : (p : ℕ) → IsSmallPrime p → (q : Prime) × (prime_value q ≡ p)
prime_is p (inl e) = (P2, sym e)
prime_is p (inr (inl e)) = (P3, sym e)
prime_is p (inr (inr (inl e))) = (P5, sym e)
prime_is p (inr (inr (inr e))) = (P7, sym e)

above_one : (q : Prime) → 1 < prime_value q
above_one P2 = omega arith
above_one P3 = omega arith
above_one P5 = omega arith
above_one P7 = omega arith

module _ (G : PGroup) (small : order_of G ≤ 256) where
  low_rank : (s : NumberedSubgroup) → IsSubgroupOf G.table s → length s.basis ≤ 8
  low_rank s S =
      let q = prime_is G.table.p G.law.prime in
      low_exponent (prime_value q.0) (length s.basis) (above_one q.0)
      (size_small G.table G.law.law q.0 q.1 s S small)

  module _ (n : ℕ) where
    each_low : (ss : List NumberedSubgroup) (xs : List Restrictor)
        → ((s : NumberedSubgroup) → IsIn s ss → IsSubgroupOf G.table s)
        → AreRelated (IsRestrictorOf G n) ss xs → Each (λ x. x.own.value.rank ≤ 8) xs
    each_low [] [] listed r = tt
    each_low [] (x ∷ xs) listed r = absurd r
    each_low (s ∷ ss) [] listed r = tt
    each_low (s ∷ ss) (x ∷ xs) listed r = (
      (let rank = r.0.restrictor.own.rank_is ∙ ap (λ (b : List ℕ). length b) r.0.basis_is in
          let low = low_rank s (listed s (inl refl)) in
          omega (arith, rank, low)),
      each_low ss xs (λ t i. listed t (inr i)) r.1,
    )

    -- the subgroups have ranks of at most 8
    pub low_ranks : (ss : List NumberedSubgroup) (xs : List Restrictor) → IsSubgroupList G.table ss
        → AreRelated (IsRestrictorOf G n) ss xs → All (λ x. x.own.value.rank ≤ 8) xs
    low_ranks ss xs L r = All-from_recursion (λ x. x.own.value.rank ≤ 8) xs
        (each_low ss xs (λ s i. subgroup_in G.table ss s L i) r)

module _ (G : PGroup) (n : ℕ) (gs : List (Generator (Vector (largest_residue G)))) where
  abbrev q : ℕ
  q = largest_residue G

  abbrev own_of : Restrictor → List (Generator (Vector q))
  own_of x = generators_of q x.own.value.ring.generators

  -- the ring of a restrictor is that of the subgroup with the same basis
  own_presentation : (s : NumberedSubgroup) (x : Restrictor) (basis : List ℕ) → IsRestrictorOf G n s x
      → basis ≡ s.basis → IsPresentation (elementary G (length basis)) n (own_of x) x.own.value.ring.relations
  own_presentation s x basis r e =
      subst (λ b. IsPresentation (elementary G (length b)) n (own_of x) x.own.value.ring.relations)
      (r.basis_is ∙ sym e) r.restrictor.own.ring_is.presentation

  ring_told : (s : NumberedSubgroup) (x : Restrictor) (v : SubgroupValue) → IsRestrictorOf G n s x
      → IsToldOf G n gs s v
      → map (λ g. g.degree) x.own.value.ring.generators ≡ v.generators
  ring_told s x v r t =
      let E = elementary G (length s.basis) in
      let P = own_presentation s x s.basis r refl in
      let same = span-generators-unique q (cohomology E) (dual_basis E) n (own_of x) t.own
      P.generators_are t.presentation.generators_are in
      sym (degrees-are q x.own.value.ring.generators) ∙ ap degrees same ∙ sym t.generators_are

  rings_told : (ss : List NumberedSubgroup) (xs : List Restrictor) (vs : List SubgroupValue)
      → AreRelated (IsRestrictorOf G n) ss xs → AreRelated (IsToldOf G n gs) ss vs
      → generators_by xs ≡ own_generators (prime_of G) vs
  rings_told [] [] [] r t = refl
  rings_told [] [] (v ∷ vs) r t = absurd t
  rings_told [] (x ∷ xs) vs r t = absurd r
  rings_told (s ∷ ss) [] vs r t = absurd r
  rings_told (s ∷ ss) (x ∷ xs) [] r t = absurd t
  rings_told (s ∷ ss) (x ∷ xs) (v ∷ vs) r t =
      let prime : x.own.value.ring.prime ≡ prime_of G = r.0.restrictor.own.ring_is.prime_is in
      let degrees = ring_told s x v r.0 t.0 in
      let rest = rings_told ss xs vs r.1 t.1 in
      λ i. record { prime = prime i; degrees = degrees i } ∷ rest i

  ranks_told : (ss : List NumberedSubgroup) (xs : List Restrictor) (vs : List SubgroupValue)
      → AreRelated (IsRestrictorOf G n) ss xs → AreRelated (IsToldOf G n gs) ss vs
      → map (λ x. x.own.value.rank) xs ≡ map (λ v. length v.basis) vs
  ranks_told [] [] [] r t = refl
  ranks_told [] [] (v ∷ vs) r t = absurd t
  ranks_told [] (x ∷ xs) vs r t = absurd r
  ranks_told (s ∷ ss) [] vs r t = absurd r
  ranks_told (s ∷ ss) (x ∷ xs) [] r t = absurd t
  ranks_told (s ∷ ss) (x ∷ xs) (v ∷ vs) r t =
      let rank : x.own.value.rank ≡ length v.basis = r.0.restrictor.own.rank_is
      ∙ ap (λ (b : List ℕ). length b) (r.0.basis_is ∙ sym t.0.basis_is) in
      let rest = ranks_told ss xs vs r.1 t.1 in
      λ i. rank i ∷ rest i

  module _ (c : Candidate) (f : Polynomial) (k : IsClassOf G n gs f c) where
    -- the form of a candidate's class is the restriction of the class
    restriction_told : (s : NumberedSubgroup) (x : Restrictor) (v : SubgroupValue) (h : Polynomial)
        → IsRestrictorOf G n s x → IsToldOf G n gs s v → IsFormOf c x h
        → IsRestriction G n (class_of G gs f) v h
    restriction_told s x v h r t form =
        let basis : x.map.basis ≡ v.basis = r.basis_is ∙ sym t.basis_is in
        let class : Generator (Vector q) = record { degree = c.degree; class = vector q c.class.entries } in
        let image : IsImage G x.map.basis (own_of x) class h =
        subst (λ H. IsImage H x.map.basis (generators_of (largest_residue H) x.own.value.ring.generators)
        (record { degree = c.degree; class = vector (largest_residue H) c.class.entries }) h)
        r.restrictor.group_is form in
        let degree = k.degree_is in
        let value = sym k.form.value_is in
        let same : class ≡ class_of G gs f = λ i. record { degree = degree i; class = value i } in
        record {
          own = own_of x;
          relations = x.own.value.ring.relations;
          presentation = own_presentation s x v.basis r t.basis_is;
          image = subst (λ b. IsImage G b (own_of x) (class_of G gs f) h) basis
              (subst (λ g. IsImage G x.map.basis (own_of x) g h) same image);
        }

    restrictions_told : (ss : List NumberedSubgroup) (xs : List Restrictor) (vs : List SubgroupValue)
        (hs : List Polynomial) → AreRelated (IsRestrictorOf G n) ss xs → AreRelated (IsToldOf G n gs) ss vs
        → AreRelated (IsFormOf c) xs hs → AreRelated (IsRestriction G n (class_of G gs f)) vs hs
    restrictions_told [] [] [] [] r t a = tt
    restrictions_told [] [] [] (h ∷ hs) r t a = absurd a
    restrictions_told [] [] (v ∷ vs) hs r t a = absurd t
    restrictions_told [] (x ∷ xs) vs hs r t a = absurd r
    restrictions_told (s ∷ ss) [] vs hs r t a = absurd r
    restrictions_told (s ∷ ss) (x ∷ xs) [] hs r t a = absurd t
    restrictions_told (s ∷ ss) (x ∷ xs) (v ∷ vs) [] r t a = absurd a
    restrictions_told (s ∷ ss) (x ∷ xs) (v ∷ vs) (h ∷ hs) r t a =
        (restriction_told s x v h r.0 t.0 a.0, restrictions_told ss xs vs hs r.1 t.1 a.1)

  module _ (ss : List NumberedSubgroup) (xs : List Restrictor) (vs : List SubgroupValue)
      (restrictors : AreRelated (IsRestrictorOf G n) ss xs) (told : AreRelated (IsToldOf G n gs) ss vs) where
    candidates_told : (fs : List Polynomial) (cs : List Candidate) (ws : List CandidateValue)
        → AreRelated (IsClassOf G n gs) fs cs → AreRelated (IsTabled xs) cs ws
        → AreRelated (IsRestricted G n gs vs) fs ws
    candidates_told [] [] [] k r = tt
    candidates_told [] [] (w ∷ ws) k r = absurd r
    candidates_told [] (c ∷ cs) ws k r = absurd k
    candidates_told (f ∷ fs) [] ws k r = absurd k
    candidates_told (f ∷ fs) (c ∷ cs) [] k r = absurd r
    candidates_told (f ∷ fs) (c ∷ cs) (w ∷ ws) k r = (
      record {
        degree_is = r.0.degree_is ∙ k.0.degree_is;
        images_are = restrictions_told c f k.0 ss xs vs w.images restrictors told r.0.images_are;
      },
      candidates_told fs cs ws k.1 r.1,
    )

    pub parameters_told : (found : Option (List Polynomial)) → IsChosen G n gs xs found
        → AreParameters G n gs vs found
    parameters_told found C = record {
      candidates = C.candidates;
      restricted = C.restricted;
      places = C.places;
      candidates_are = C.candidates_are;
      restricted_are = candidates_told C.candidates C.classes C.restricted C.classes_are C.restricted_are;
      found = subst (λ ranks. IsFoundIn (record {
        prime = prime_of G;
        subgroups = own_generators (prime_of G) vs;
        candidates = C.restricted;
      }) (greatest ranks) C.places) (ranks_told ss xs vs restrictors told)
          (subst (λ rings. IsFoundIn (record {
            prime = prime_of G;
            subgroups = rings;
            candidates = C.restricted;
          }) (greatest (map (λ x. x.own.value.rank) xs)) C.places) (rings_told ss xs vs restrictors told)
          C.found);
      parameters_are = C.parameters_are;
    }
