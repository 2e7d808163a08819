-- The steps of the search.
use Rattle.std.proofs.Common.{◌≡◌, ℕ, ◌<◌, ◌≤◌, List, [], ◌∷◌, ◌++◌, Bool, true, false, inl, inr, refl, ap}
use Rattle.std.proofs.Common.{sym, ◌∙◌, subst, arith, append_assoc, length, get_or, take, drop, ◌-◌}
use Rattle.std.proofs.lemmas.Grind.{common_steps}
use Rattle.std.specs.Prelude.{filter, ◌==◌}
use Rattle.std.proofs.lemmas.Bool.{eq-eqb, eqb-true}
use Rattle.group_table.specs.Tables.{GroupTable, order, product, power}
use Rattle.elementary_subgroups.proofs.GroupLaws.{HasGroupLaw}
use Rattle.elementary_subgroups.specs.Sets.{IsIn, IsAscending, IsBelow, IsSet, IsBefore}
use Rattle.elementary_subgroups.specs.Subgroups.{IsMaximalElementaryList, IsLeast}
use Rattle.elementary_subgroups.specs.Bases.{numbers}
use Rattle.elementary_subgroups.specs.Cliques.{IsTorsion, Commutes, CommutesWithAll, commutes_test}
use Rattle.elementary_subgroups.specs.Cliques.{torsion_test, IsFull}
use Rattle.subgroup_list.specs.Search.{IsSublist, IsPlace, IsFound, IsBlocked, IsKept}
use Rattle.elementary_subgroups.proofs.Members.{bool_cases, filter_taken, filter_left, in_left, in_right}
use Rattle.elementary_subgroups.proofs.Members.{in_append, in_filter, from_filter, filter_ascending}
use Rattle.elementary_subgroups.proofs.Members.{in_numbers, from_numbers, numbers_ascending, ascending_append}
use Rattle.subgroup_list.proofs.Sublists.{sublist_in, set_is_sublist, sublist_filter, filter_sublist}
use Rattle.subgroup_list.proofs.Sublists.{before_at, ascending_left, ascending_right, ascending_across}
use Rattle.subgroup_list.proofs.Sublists.{ascending_end}
use Rattle.elementary_subgroups.proofs.Cliques.{maximal_from_full, full_from_maximal}

self_filter : (t : ℕ → Bool) (xs : List ℕ) → IsSublist (filter t xs) xs
self_filter t xs = filter_sublist t (filter t xs) xs (itself (filter t xs))
  where
    itself : (ys : List ℕ) → IsSublist ys ys
    itself [] = refl
    itself (y ∷ ys) = inl (ys, refl, itself ys)

-- what commutes with the chosen ones and u commutes with both
with_one : (G : GroupTable) (x u : ℕ) (ks : List ℕ) → CommutesWithAll G x ks → Commutes G x u →
    CommutesWithAll G x (ks ++ u ∷ [])
with_one G x u ks h e y k = elim (in_append y ks (u ∷ []) k) [
  | inl a ↦ h y a
  | inr b ↦ elim b [
    | inl q ↦ (let P : ℕ → Type 0 = λ w. Commutes G x w in subst P (sym q) e)
    | inr n ↦
        absurd n
  ]
]

passes : (G : GroupTable) (u x : ℕ) → Commutes G x u → commutes_test G u x ≡ true
passes G u x e = eq-eqb (product G u x) (product G x u) (sym e)

passed : (G : GroupTable) (u x : ℕ) → commutes_test G u x ≡ true → Commutes G x u
passed G u x e = sym (eqb-true (product G u x) (product G x u) e)

-- u is chosen
pub place_with : {G : GroupTable} (ks : List ℕ) (u : ℕ) (rest xs : List ℕ) → IsPlace G ks (u ∷ rest) xs →
    IsPlace G (ks ++ u ∷ []) (filter (commutes_test G u) rest) (filter (commutes_test G u) xs)
place_with {G} ks u rest xs p = record {
  is_set = subst IsSet (sym (append_assoc ks (u ∷ []) (filter t rest))) (ascending_end ks (u ∷ rest)
      (u ∷ filter t rest) p.is_set (inl (filter t rest, refl, self_filter t rest)));
  torsion = λ x h. elim (in_append x ks (u ∷ []) h) [
    | inl a ↦ p.torsion x a
    | inr b ↦ elim b [
      | inl q ↦ (let P : ℕ → Type 0 = λ w. IsTorsion G w in
          subst P (sym q) (p.free_torsion u (inl refl)))
      | inr n ↦ absurd n
    ]
  ];
  commutes = λ x y h k. elim (in_append x ks (u ∷ []) h) [
    | inl a ↦ with_one G x u ks (λ z l. p.commutes x z a l) (sym (p.free_commutes u (inl refl) x a)) y k
    | inr b ↦ elim b [
      | inl q ↦ (let P : ℕ → Type 0 = λ w. Commutes G w y in
          subst P (sym q) (with_one G u u ks (p.free_commutes u (inl refl)) refl y k))
      | inr n ↦ absurd n
    ]
  ];
  free_torsion = λ x h. p.free_torsion x (inr (from_filter t x rest h).0);
  free_commutes = λ x h. with_one G x u ks (p.free_commutes x (inr (from_filter t x rest h).0))
      (passed G u x (from_filter t x rest h).1);
  barred_torsion = λ x h. p.barred_torsion x (from_filter t x xs h).0;
  barred_commutes = λ x h. with_one G x u ks (p.barred_commutes x (from_filter t x xs h).0)
      (passed G u x (from_filter t x xs h).1);
  apart = λ x h k. p.apart x (from_filter t x xs h).0 (elim (in_append x (ks ++ u ∷ []) (filter t rest) k) [
    | inl a ↦ elim (in_append x ks (u ∷ []) a) [
      | inl b ↦ in_left x ks (u ∷ rest) b
      | inr b ↦ in_right x ks (u ∷ rest) (elim b [ inl q ↦ inl q | inr n ↦ absurd n ])
    ]
    | inr a ↦ in_right x ks (u ∷ rest) (inr (from_filter t x rest a).0)
  ]);
  covers = λ x s c.
      let cu : Commutes G x u = c u (in_right u ks (u ∷ []) (inl refl)) in
      elim (p.covers x s (λ y h. c y (in_left y ks (u ∷ []) h))) [
        | inl a ↦ inl (elim (in_append x ks (u ∷ rest) a) [
          | inl b ↦ in_left x (ks ++ u ∷ []) (filter t rest) (in_left x ks (u ∷ []) b)
          | inr b ↦ elim b [
            | inl q ↦ in_left x (ks ++ u ∷ []) (filter t rest) (in_right x ks (u ∷ []) (inl q))
            | inr r ↦ in_right x (ks ++ u ∷ []) (filter t rest) (in_filter t x rest r (passes G u x cu))
          ]
        ])
        | inr a ↦ inr (in_filter t x xs a (passes G u x cu))
      ];
}
  where
    t : ℕ → Bool
    t = commutes_test G u

-- u is barred
pub place_without : {G : GroupTable} (ks : List ℕ) (u : ℕ) (rest xs : List ℕ) → IsPlace G ks (u ∷ rest) xs →
    IsPlace G ks rest (xs ++ u ∷ [])
place_without {G} ks u rest xs p = record {
  is_set = ascending_end ks (u ∷ rest) rest p.is_set (inr (itself rest));
  torsion = p.torsion;
  commutes = p.commutes;
  free_torsion = λ x h. p.free_torsion x (inr h);
  free_commutes = λ x h. p.free_commutes x (inr h);
  barred_torsion = λ x h. elim (in_append x xs (u ∷ []) h) [
    | inl a ↦ p.barred_torsion x a
    | inr b ↦ elim b [
      | inl q ↦ (let P : ℕ → Type 0 = λ w. IsTorsion G w in
          subst P (sym q) (p.free_torsion u (inl refl)))
      | inr n ↦ absurd n
    ]
  ];
  barred_commutes = λ x h. elim (in_append x xs (u ∷ []) h) [
    | inl a ↦ p.barred_commutes x a
    | inr b ↦ elim b [
      | inl q ↦ (let P : ℕ → Type 0 = λ w. CommutesWithAll G w ks in
          subst P (sym q) (p.free_commutes u (inl refl)))
      | inr n ↦ absurd n
    ]
  ];
  apart = λ x h k. elim (in_append x xs (u ∷ []) h) [
    | inl a ↦ p.apart x a (elim (in_append x ks rest k) [
      | inl b ↦ in_left x ks (u ∷ rest) b
      | inr b ↦
          in_right x ks (u ∷ rest) (inr b)
    ])
    | inr b ↦ elim b [
      | inl q ↦ elim (in_append x ks rest k) [
        | inl l ↦ (let less : x < u = ascending_across ks (u ∷ rest) p.is_set x u l (inl refl) in
            absurd (omega arith))
        | inr l ↦ (let less : u < x = (ascending_right ks (u ∷ rest) p.is_set).0 x l in absurd (omega arith))
      ]
      | inr n ↦ absurd n
    ]
  ];
  covers = λ x s c. elim (p.covers x s c) [
    | inl a ↦ elim (in_append x ks (u ∷ rest) a) [
      | inl b ↦ inl (in_left x ks rest b)
      | inr b ↦ elim b [ inl q ↦ inr (in_right x xs (u ∷ []) (inl q)) | inr r ↦ inl (in_right x ks rest r) ]
    ]
    | inr a ↦ inr (in_left x xs (u ∷ []) a)
  ];
}
  where
    itself : (ys : List ℕ) → IsSublist ys ys
    itself [] = refl
    itself (y ∷ ys) = inl (ys, refl, itself ys)

-- where all elements are free
pub place_start : (G : GroupTable) → IsPlace G [] (filter (torsion_test G) (numbers (order G))) []
place_start G = record {
  is_set = filter_ascending IsBelow (torsion_test G) (numbers (order G)) (numbers_ascending (order G));
  torsion = λ x h. absurd h;
  commutes = λ x y h k. absurd h;
  free_torsion = λ x h. let r = from_filter (torsion_test G) x (numbers (order G)) h in
      record { element = from_numbers (order G) x r.0; power_is = eqb-true (power G x G.p) 0 r.1 };
  free_commutes = λ x h y k. absurd k;
  barred_torsion = λ x h. absurd h;
  barred_commutes = λ x h. absurd h;
  apart = λ x h k. h;
  covers = λ x s c. inl (in_filter (torsion_test G) x (numbers (order G)) (in_numbers (order G) x s.element)
      (eq-eqb (power G x G.p) 0 s.power_is));
}

pub found_blocked : {G : GroupTable} (ks free xs : List ℕ) → IsPlace G ks free xs → IsBlocked G free xs →
    IsFound G ks free []
found_blocked {G} ks free xs p b = record {
  each = λ m h. absurd h;
  complete = λ more s F l. absurd (
      let x = b.0 in
      p.apart x b.1 (elim (in_append x ks more (F.full x (p.barred_torsion x b.1)
      (λ y h. elim (in_append y ks more h) [
        | inl a ↦ p.barred_commutes x b.1 y a
        | inr a ↦
            b.2 y (sublist_in more free s y a)
      ]))) [
        | inl a ↦ in_left x ks free a
        | inr a ↦ in_right x ks free (sublist_in more free s x a)
      ]));
  ascending = tt;
}

-- with nothing free, and nothing barred, the chosen ones are full
pub full_at_end : {G : GroupTable} (ks xs : List ℕ) → IsPlace G ks [] xs → (IsBlocked G [] xs → ⊥) →
    IsFull G ks
full_at_end {G} ks xs p b = record {
  is_set = ascending_left ks [] p.is_set;
  torsion = p.torsion;
  commutes = p.commutes;
  full = λ y t c. elim (p.covers y t c) [
    | inl a ↦ elim (in_append y ks [] a) [ inl k ↦ k | inr n ↦ absurd n ]
    | inr a ↦ absurd (b (y, a, (λ z h. absurd h)))
  ];
}

append_nil : (xs : List ℕ) → xs ++ [] ≡ xs
append_nil [] = refl
append_nil (x ∷ xs) = ap (λ l. x ∷ l) (append_nil xs)

pub found_least : {G : GroupTable} (ks xs : List ℕ) → IsPlace G ks [] xs → (IsBlocked G [] xs → ⊥) →
    IsLeast G ks → IsFound G ks [] (ks ∷ [])
found_least {G} ks xs p b l = record {
  each = λ m h. elim h [
    | inl e ↦ (
      [],
      e ∙ sym (append_nil ks),
      refl,
      (let P : List ℕ → Type 0 = λ z. IsFull G z in
          subst P (sym e) (full_at_end ks xs p b)),
      (let P : List ℕ → Type 0 = λ z. IsLeast G z in
          subst P (sym e) l),
    )
    | inr n ↦ absurd n
  ];
  complete = λ more s F r. inl (ap (λ z. ks ++ z) s ∙ append_nil ks);
  ascending = ((λ y h. absurd h), tt);
}

pub found_not_least : {G : GroupTable} (ks : List ℕ) → (IsLeast G ks → ⊥) → IsFound G ks [] []
found_not_least {G} ks b = record {
  each = λ m h. absurd h;
  complete = λ more s F r. absurd (let P : List ℕ → Type 0 = λ z. IsLeast G z in
      b (subst P (ap (λ z. ks ++ z) s ∙ append_nil ks) r));
  ascending = tt;
}

ascending_join : (ms ns : List (List ℕ)) → IsAscending IsBefore ms → IsAscending IsBefore ns →
    ((m n : List ℕ) → IsIn m ms → IsIn n ns → IsBefore m n) → IsAscending IsBefore (ms ++ ns)
ascending_join ms ns s t h = ascending_append IsBefore ms ns s t h

pub found_join : {G : GroupTable} (ks : List ℕ) (u : ℕ) (rest xs : List ℕ) (ms ns : List (List ℕ)) →
    IsPlace G ks (u ∷ rest) xs →
    IsFound G (ks ++ u ∷ []) (filter (commutes_test G u) rest) ms → IsFound G ks rest ns →
    IsFound G ks (u ∷ rest) (ms ++ ns)
found_join {G} ks u rest xs ms ns p f g = record {
  each = λ m h. elim (in_append m ms ns h) [
    | inl a ↦ (let r = f.each m a in (
      u ∷ r.0,
      r.1 ∙ append_assoc ks (u ∷ []) r.0,
      inl (r.0, refl, filter_sublist (commutes_test G u) r.0 rest r.2),
      r.3,
      r.4,
    ))
    | inr a ↦ (let r = g.each m a in (r.0, r.1, inr r.2, r.3, r.4))
  ];
  complete = λ more s F l. elim s [
    | inl a ↦ (
        let e : ks ++ more ≡ (ks ++ u ∷ []) ++ a.0 = ap (λ z. ks ++ z) a.1
        ∙ sym (append_assoc ks (u ∷ []) a.0) in
        let P : List ℕ → Type 0 = λ z. IsFull G z in
        let Q : List ℕ → Type 0 = λ z. IsLeast G z in
        let R : List ℕ → Type 0 = λ z. IsIn z (ms ++ ns) in
        let F1 = subst P e F in
        subst R (sym e) (in_left ((ks ++ u ∷ []) ++ a.0) ms ns (f.complete a.0
        (sublist_filter (commutes_test G u) a.0 rest a.2
        (λ y h. passes G u y (F1.commutes y u (in_right y (ks ++ u ∷ []) a.0 h)
        (in_left u (ks ++ u ∷ []) a.0 (in_right u ks (u ∷ []) (inl refl))))))
        F1 (subst Q e l))))
    | inr a ↦ in_right (ks ++ more) ms ns (g.complete more a F l)
  ];
  ascending = ascending_join ms ns f.ascending g.ascending (λ m n h k. earlier m n (f.each m h).0
      (f.each m h).1 (g.each n k).0 (g.each n k).1 (g.each n k).2 (g.each n k).3);
}
  where
    -- u commutes with the chosen ones, so they are not full
    not_alone : IsFull G ks → ⊥
    not_alone F = let h = F.full u (p.free_torsion u (inl refl)) (p.free_commutes u (inl refl)) in
        let l : u < u = ascending_across ks (u ∷ rest) p.is_set u u h (inl refl) in omega arith

    after : (more : List ℕ) → IsSublist more rest → IsFull G (ks ++ more) → (m : List ℕ) (m' : List ℕ) →
        m ≡ ks ++ u ∷ m' → IsBefore m (ks ++ more)
    after [] s F m m' e = absurd (let P : List ℕ → Type 0 = λ z. IsFull G z in
        not_alone (subst P (append_nil ks) F))
    after (v ∷ more) s F m m' e = let P : List ℕ → Type 0 = λ z. IsBefore z (ks ++ v ∷ more) in
        subst P (sym e) (before_at ks m' more u v ((ascending_right ks (u ∷ rest) p.is_set).0 v
        (sublist_in (v ∷ more) rest s v (inl refl))))

    earlier : (m n a : List ℕ) → m ≡ (ks ++ u ∷ []) ++ a → (b : List ℕ) → n ≡ ks ++ b → IsSublist b rest →
        IsFull G n → IsBefore m n
    earlier m n a e b q s F = let P : List ℕ → Type 0 = λ z. IsFull G z in let Q : List ℕ → Type 0 = λ z.
        IsBefore m z in
        subst Q (sym q) (after b s (subst P q F) m a (e ∙ append_assoc ks (u ∷ []) a))

pub found_all : {G : GroupTable} → HasGroupLaw G → (ms : List (List ℕ)) →
    IsFound G [] (filter (torsion_test G) (numbers (order G))) ms → IsMaximalElementaryList G ms
found_all {G} L ms f = record {
  each = λ m h. let r = f.each m h in (maximal_from_full L m r.3, r.4);
  complete = λ m M l.
      let F = full_from_maximal L m M in
      f.complete m (set_is_sublist m (filter (torsion_test G) (numbers (order G))) F.is_set
      (filter_ascending IsBelow (torsion_test G) (numbers (order G)) (numbers_ascending (order G)))
      (λ x h. let t = F.torsion x h in in_filter (torsion_test G) x (numbers (order G))
      (in_numbers (order G) x t.element) (eq-eqb (power G x G.p) 0 t.power_is)))
      F l;
  ascending = f.ascending;
}

-- the two parts of a search
pub explore_step : {G : GroupTable} (ks free xs : List ℕ) (old mid new : List (List ℕ)) (u : ℕ)
    (rest kw fw : List ℕ) →
    free ≡ u ∷ rest → kw ≡ ks ++ u ∷ [] → fw ≡ filter (commutes_test G u) rest → IsPlace G ks free xs →
    (ms : List (List ℕ)) × (mid ≡ old ++ ms) × IsFound G kw fw ms →
    (ns : List (List ℕ)) × (new ≡ mid ++ ns) × IsFound G ks rest ns →
    (qs : List (List ℕ)) × (new ≡ old ++ qs) × IsFound G ks free qs
explore_step {G} ks free xs old mid new u rest kw fw e f g p a b =
    let P : List ℕ → Type 0 = λ l. IsPlace G ks l xs in
    let A : List ℕ → Type 0 = λ l. IsFound G l fw a.0 in
    let B : List ℕ → Type 0 = λ l. IsFound G (ks ++ u ∷ []) l a.0 in
    let Q : List ℕ → Type 0 = λ l. IsFound G ks l (a.0 ++ b.0) in (
      a.0 ++ b.0,
      b.1 ∙ ap (λ l. l ++ b.0) a.1 ∙ append_assoc old a.0 b.0,
      subst Q (sym e) (found_join ks u rest xs a.0 b.0 (subst P e p) (subst B g (subst A f a.2)) b.2),
    )

pub found_kept : {G : GroupTable} (ks free xs : List ℕ) (ms : List (List ℕ)) → free ≡ [] →
    IsPlace G ks free xs → (IsBlocked G free xs → ⊥) → IsKept G ks ms → IsFound G ks free ms
found_kept {G} ks free xs ms e p b k =
    let P : List ℕ → Type 0 = λ l. IsPlace G ks l xs in
    let B : List ℕ → Type 0 = λ l. IsBlocked G l xs → ⊥ in
    let Q : List ℕ → Type 0 = λ l. IsFound G ks l ms in
    let R : List (List ℕ) → Type 0 = λ l. IsFound G ks [] l in
    subst Q (sym e) (elim k [
      | inl a ↦ subst R (sym a.0) (found_least ks xs (subst P e p) (subst B e b) a.1)
      | inr a ↦ subst R (sym a.0) (found_not_least ks a.1)
    ])

pub kept_requires : {G : GroupTable} (ks free xs : List ℕ) → free ≡ [] → IsPlace G ks free xs →
    (IsBlocked G free xs → ⊥) → IsFull G ks
kept_requires {G} ks free xs e p b =
    let P : List ℕ → Type 0 = λ l. IsPlace G ks l xs in
    let B : List ℕ → Type 0 = λ l. IsBlocked G l xs → ⊥ in
    full_at_end ks xs (subst P e p) (subst B e b)

pub head_tail : (xs : List ℕ) → 0 < length xs → xs ≡ get_or xs 0 0 ∷ take (length xs - 1) (drop 1 xs)
head_tail [] l = absurd (omega arith)
head_tail (x ∷ xs) l = grind (arith, common_steps)

filter_length : (t : ℕ → Bool) (xs : List ℕ) → length (filter t xs) ≤ length xs
filter_length t [] = omega arith
filter_length t (x ∷ xs) = let r = filter_length t xs in
    elim (bool_cases (t x)) [
      | inl e ↦ rw (filter_taken t x xs e) (omega arith)
      | inr e ↦ rw (filter_left t x xs e) (omega arith)
    ]

pub shorter : (free : List ℕ) (u : ℕ) (rest : List ℕ) → free ≡ u ∷ rest → length rest < length free
shorter free u rest e = rw e (omega arith)

pub shorter_filter : (free : List ℕ) (u : ℕ) (rest fw : List ℕ) (t : ℕ → Bool) → free ≡ u ∷ rest →
    fw ≡ filter t rest → length fw < length free
shorter_filter free u rest fw t e f = let a = shorter free u rest e in let b : length fw ≤ length rest =
    rw f (filter_length t rest) in omega arith

pub not_empty : (xs : List ℕ) → false ≡ (length xs == 0) → 0 < length xs
not_empty [] e = absurd (let bad : false ≡ true = e in cc)
not_empty (x ∷ xs) e = omega arith

pub in_rest : (free : List ℕ) (u : ℕ) (rest : List ℕ) → free ≡ u ∷ rest → (x : ℕ) → IsIn x rest → IsIn x free
in_rest free u rest e x h = let P : List ℕ → Type 0 = λ l. IsIn x l in subst P (sym e) (inr h)

pub step_with : {G : GroupTable} (ks free xs : List ℕ) (u : ℕ) (rest kw fw xw : List ℕ) → free ≡ u ∷ rest →
    kw ≡ ks ++ u ∷ [] →
    fw ≡ filter (commutes_test G u) rest → xw ≡ filter (commutes_test G u) xs → IsPlace G ks free xs →
    IsPlace G kw fw xw
step_with {G} ks free xs u rest kw fw xw e f g h p =
    let P : List ℕ → Type 0 = λ l. IsPlace G ks l xs in
    rw (f, g, h) (place_with ks u rest xs (subst P e p))

pub step_without : {G : GroupTable} (ks free xs : List ℕ) (u : ℕ) (rest xo : List ℕ) → free ≡ u ∷ rest →
    xo ≡ xs ++ u ∷ [] → IsPlace G ks free xs → IsPlace G ks rest xo
step_without {G} ks free xs u rest xo e f p =
    let P : List ℕ → Type 0 = λ l. IsPlace G ks l xs in
    rw f (place_without ks u rest xs (subst P e p))
