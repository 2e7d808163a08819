-- The numbering of a greedy basis goes through the subgroup once.
use Rattle.std.proofs.Common.{◌≡◌, ℕ, zero, suc, ◌<◌, ◌+◌, ◌*◌, ◌/◌, ◌%◌, ◌^◌, ◌-◌, List, [], ◌∷◌, ◌++◌, inl}
use Rattle.std.proofs.Common.{inr, refl, ap, sym, ◌∙◌, subst, arith, length}
use Rattle.std.proofs.lemmas.Bool.{cases_lt}
use Rattle.std.proofs.Math.Nat.{div-add-mod', pow-suc, pow-zero, div-lt_iff_lt-mul, mod-lt}
use Rattle.std.proofs.lemmas.Nat.{div-mul-add, mod-mul-add}
use Rattle.group_table.specs.Tables.{GroupTable, order, product, power}
use Rattle.group_table.specs.declared.Prime.{Prime}
use Rattle.group_table.specs.Prime.{prime_value}
use Rattle.elementary_subgroups.specs.Sets.{IsIn}
use Rattle.elementary_subgroups.specs.Cliques.{AreElements, Commutes, IsTorsion}
use Rattle.elementary_subgroups.specs.Bases.{embed, size, IsGenerated}
use Rattle.elementary_subgroups.specs.OwnGroups.{digit_sum}
use Rattle.elementary_subgroups.proofs.GroupLaws.{HasGroupLaw, power_below, commutes_power, power_of_unit}
use Rattle.elementary_subgroups.proofs.Members.{in_left, in_right}
use Rattle.elementary_subgroups.proofs.Cliques.{torsion_product}
use Rattle.elementary_subgroups.proofs.ElementaryGroups.{digit_sum-below}
use Rattle.elementary_subgroups.proofs.Conjugates.{same_right}
use Rattle.elementary_subgroups.proofs.Numbering.{embed_below, embed_push, size_push}
use Rattle.elementary_subgroups.proofs.Powers.{power_add, power_mul, power_mod, unit_modulo}

-- the basis members commute, and their p-th powers are 0
pub record IsIndependentKind (G : GroupTable) (bs : List ℕ) : Type 0 where
  pub torsion : (x : ℕ) → IsIn x bs → IsTorsion G x
  pub commutes : (x y : ℕ) → IsIn x bs → IsIn y bs → Commutes G x y

elements_of : {G : GroupTable} (bs : List ℕ) → IsIndependentKind G bs → AreElements G bs
elements_of bs K x h = (K.torsion x h).element

tail_kind : {G : GroupTable} (b : ℕ) (bs : List ℕ) → IsIndependentKind G (b ∷ bs) → IsIndependentKind G bs
tail_kind b bs K = record {
  torsion = λ x h. K.torsion x (inr h);
  commutes = λ x y h k. K.commutes x y
      (inr h) (inr k);
}

-- what commutes with the members commutes with their products
pub embed_commutes : {G : GroupTable} → HasGroupLaw G → (bs : List ℕ) (e x : ℕ) → AreElements G bs →
    x < order G → ((b : ℕ) → IsIn b bs → Commutes G b x) → Commutes G (embed G bs e) x
embed_commutes L [] e x h i c = L.law.one-mul x i ∙ sym (L.law.mul-one x i)
embed_commutes {G} L (b ∷ bs) e x h i c =
    let B = power G b (e % G.p) in
    let U = embed G bs (e / G.p) in
    let bb = h b (inl refl) in
    let iB = power_below L b (e % G.p) bb in
    let iU = embed_below L bs (e / G.p) (λ y k. h y (inr k)) in
    L.law.mul-assoc B U x iB iU i
    ∙ ap (λ w. product G B w) (embed_commutes L bs (e / G.p) x (λ y k. h y (inr k)) i (λ y k. c y (inr k)))
    ∙ sym (L.law.mul-assoc B x U iB i iU) ∙ ap (λ w. product G w U) (commutes_power L b x (e % G.p) bb i
    (c b (inl refl))) ∙ L.law.mul-assoc x B U i iB iU

-- the element with the sum of the digits is the product of the elements
pub embed-digit_sum : {G : GroupTable} → HasGroupLaw G → 0 < G.p → (bs : List ℕ) → IsIndependentKind G bs →
    (e f : ℕ) → embed G bs (digit_sum G.p (length bs) e f) ≡ product G (embed G bs e) (embed G bs f)
embed-digit_sum {G} L z [] K e f = sym (L.law.one-mul 0 L.law.some)
embed-digit_sum {G} L z (b ∷ bs) K e f =
    let p = G.p in
    let h = digit_sum p (length bs) (e / p) (f / p) in
    let n = e % p + f % p in
    let d = n % p in
    let dl : d < p = mod-lt n z in
    let A = power G b (e % p) in
    let C = power G b (f % p) in
    let U = embed G bs (e / p) in
    let V = embed G bs (f / p) in
    let t = K.torsion b (inl refl) in
    let rest = elements_of bs (tail_kind b bs K) in
    let iA = power_below L b (e % p) t.element in
    let iC = power_below L b (f % p) t.element in
    let iU = embed_below L bs (e / p) rest in
    let iV = embed_below L bs (f / p) rest in
    let cross : product G U C ≡ product G C U = embed_commutes L bs (e / p) C rest iC
    (λ y k. sym (commutes_power L b y (f % p) t.element (rest y k) (K.commutes b y (inl refl) (inr k)))) in
    ap (λ w. product G (power G b w) (embed G bs ((h * p + d) / p))) (mod-mul-add h p d dl)
    ∙ ap (λ w. product G (power G b d) (embed G bs w)) (div-mul-add h p d dl)
    ∙ ap (λ w. product G w (embed G bs h)) (power_mod L b n t ∙ power_add L b (e % p) (f % p) t.element)
    ∙ ap (λ w. product G (product G A C) w) (embed-digit_sum L z bs (tail_kind b bs K) (e / p) (f / p))
    ∙ L.law.mul-assoc A C (product G U V) iA iC (L.law.closed U V iU iV)
    ∙ ap (λ w. product G A w)
    (sym (L.law.mul-assoc C U V iC iU iV) ∙ ap (λ w. product G w V) (sym cross)
    ∙ L.law.mul-assoc U C V iU iC iV)
    ∙ sym (L.law.mul-assoc A U (product G C V) iA iU (L.law.closed C V iC iV))

-- products of generated elements are generated
pub generated_product : {G : GroupTable} → HasGroupLaw G → 0 < G.p → (bs : List ℕ) →
    IsIndependentKind G bs → (e f : ℕ) →
    (h : ℕ) × (h < size G bs) × (embed G bs h ≡ product G (embed G bs e) (embed G bs f))
generated_product {G} L z bs K e f = (
  digit_sum G.p (length bs) e f,
  digit_sum-below G.p (length bs) e f z,
  embed-digit_sum L z bs K e f,
)

pub generated_unit : {G : GroupTable} → HasGroupLaw G → 0 < G.p → (bs : List ℕ) → (h : ℕ) × (h < size G bs)
    × (embed G bs h ≡ 0)
generated_unit {G} L z [] = (
  0,
  (let o : G.p ^ 0 ≡ 1 = pow-zero G.p in subst (λ w. 0 < w) (sym o)
      (omega arith)),
  refl,
)
generated_unit {G} L z (b ∷ bs) =
    let r = generated_unit L z bs in
    let grow : size G (b ∷ bs) ≡ size G bs * G.p = pow-suc G.p (length bs) in (
      r.0 * G.p + 0,
      subst (λ w. r.0 * G.p + 0 < w) (sym grow) (digit r.0 (size G bs) G.p r.1 z),
      ap (λ w. product G (power G b w) (embed G bs ((r.0 * G.p + 0) / G.p))) (mod-mul-add r.0 G.p 0 z)
          ∙ ap (λ w. product G 0 (embed G bs w)) (div-mul-add r.0 G.p 0 z)
          ∙ ap (λ w. product G 0 w) r.2 ∙ L.law.one-mul 0 L.law.some,
    )
  where
    digit : (r s p : ℕ) → r < s → 0 < p → r * p + 0 < s * p
    digit r s p a b = grind arith

pub generated_power : {G : GroupTable} → HasGroupLaw G → 0 < G.p → (bs : List ℕ) → IsIndependentKind G bs →
    (e t : ℕ) → e < size G bs → (h : ℕ) × (h < size G bs) × (embed G bs h ≡ power G (embed G bs e) t)
generated_power L z bs K e zero i = generated_unit L z bs
generated_power {G} L z bs K e (suc t) i =
    let r = generated_power L z bs K e t i in
    let s = generated_product L z bs K r.0 e in
    (s.0, s.1, s.2 ∙ ap (λ w. product G w (embed G bs e)) r.2)

pub embed_torsion : {G : GroupTable} → HasGroupLaw G → (bs : List ℕ) → IsIndependentKind G bs → (e : ℕ) →
    IsTorsion G (embed G bs e)
embed_torsion {G} L [] K e = record { element = L.law.some; power_is = power_of_unit L G.p }
embed_torsion {G} L (b ∷ bs) K e =
    let t = K.torsion b (inl refl) in
    let B = power G b (e % G.p) in
    let iB = power_below L b (e % G.p) t.element in
    let U = embed G bs (e / G.p) in
    let u = embed_torsion L bs (tail_kind b bs K) (e / G.p) in
    let tB : IsTorsion G B = record {
      element = iB;
      power_is = sym (power_mul L b (e % G.p) G.p t.element) ∙ ap (power G b) (swap (e % G.p) G.p)
          ∙ power_mul L b G.p (e % G.p) t.element
          ∙ ap (λ w. power G w (e % G.p)) t.power_is ∙ power_of_unit L (e % G.p);
    } in
    torsion_product L B U tB u (commutes_power L b U (e % G.p) t.element u.element
    (sym (embed_commutes L bs (e / G.p) b (elements_of bs (tail_kind b bs K)) t.element
    (λ y k. K.commutes y b (inr k) (inl refl)))))
  where
    swap : (a b : ℕ) → a * b ≡ b * a
    swap a b = omega arith

-- if a power of x below p is generated, x is
pub root_generated : {G : GroupTable} → HasGroupLaw G → (q : Prime) → G.p ≡ prime_value q → 0 < G.p →
    (bs : List ℕ) → IsIndependentKind G bs → (x d : ℕ) → IsTorsion G x →
    0 < d → d < G.p → IsGenerated G bs (power G x d) → IsGenerated G bs x
root_generated {G} L q e z bs K x d t a b g =
    let u = unit_modulo q d a (subst (λ w. d < w) e b) in
    let r = generated_power L z bs K g.0 u.0 g.1 in
    let n : d * u.0 ≡ G.p * u.1 + 1 = u.2 ∙ ap (λ w. 1 + w * u.1) (sym e) ∙ swap (G.p * u.1) in (
      r.0,
      r.1,
      r.2 ∙ ap (λ w. power G w u.0) g.2 ∙ sym (power_mul L x d u.0 t.element) ∙ ap (power G x) n
          ∙ power_add L x (G.p * u.1) 1 t.element
          ∙ ap (λ w. product G w (power G x 1)) (power_mul L x G.p u.1 t.element
          ∙ ap (λ w. power G w u.1) t.power_is ∙ power_of_unit L u.1)
          ∙ L.law.one-mul (power G x 1) (power_below L x 1 t.element) ∙ L.law.one-mul x t.element,
    )
  where
    swap : (a : ℕ) → 1 + a ≡ a + 1
    swap a = omega arith

-- equal products with different powers of x generate x
pub powers_differ : {G : GroupTable} → HasGroupLaw G → (q : Prime) → G.p ≡ prime_value q → 0 < G.p →
    (bs : List ℕ) → IsIndependentKind G bs → (x e f k l : ℕ) → IsTorsion G x →
    e < size G bs → f < size G bs → k < l → l < G.p → product G (embed G bs e) (power G x k) ≡ product G
    (embed G bs f) (power G x l) → IsGenerated G bs x
powers_differ {G} L q pe z bs K x e f k l t i j a b h =
    let d = l - k in
    let Y = embed G bs e in let W = embed G bs f in
    let tW = embed_torsion L bs K f in
    let iY = (embed_torsion L bs K e).element in let iW = tW.element in
    let Xd = power G x d in let Xk = power G x k in
    let iXd = power_below L x d t.element in let iXk = power_below L x k t.element in
    let n : l ≡ d + k = omega arith in
    let same : Y ≡ product G W Xd = same_right L Xk Y (product G W Xd) iXk iY (L.law.closed W Xd iW iXd)
    (h ∙ ap (λ w. product G W w) (ap (power G x) n ∙ power_add L x d k t.element)
    ∙ sym (L.law.mul-assoc W Xd Xk iW iXd iXk)) in
    let V = power G W (G.p - 1) in
    let iV = power_below L W (G.p - 1) iW in
    let one : product G V W ≡ 0 = ap (power G W) (whole G.p z) ∙ tW.power_is in
    let root : Xd ≡ product G V Y = sym (ap (λ w. product G V w) same
    ∙ sym (L.law.mul-assoc V W Xd iV iW iXd) ∙ ap (λ w. product G w Xd) one ∙ L.law.one-mul Xd iXd) in
    let v = generated_power L z bs K f (G.p - 1) j in
    let r = generated_product L z bs K v.0 e in
    root_generated L q pe z bs K x d t (omega arith) (omega arith)
    (r.0, r.1, r.2 ∙ ap (λ w. product G w Y) v.2 ∙ sym root)
  where
    whole : (p : ℕ) → 0 < p → suc (p - 1) ≡ p
    whole p h = omega arith

abbrev pub IsOneToOne : GroupTable → List ℕ → Type 0
IsOneToOne G bs = (e f : ℕ) → e < size G bs → f < size G bs → embed G bs e ≡ embed G bs f → e ≡ f

-- with a member that is not generated the numbering stays one to one
pub one_to_one_push : {G : GroupTable} → HasGroupLaw G → (q : Prime) → G.p ≡ prime_value q → 0 < G.p →
    (bs : List ℕ) (x : ℕ) → IsIndependentKind G (bs ++ x ∷ []) →
    ¬ (IsGenerated G bs x) → IsOneToOne G bs → IsOneToOne G (bs ++ x ∷ [])
one_to_one_push {G} L q pe z bs x K fresh one e f i j h =
    let s = size G bs in
    let K1 : IsIndependentKind G bs = record {
      torsion = λ y k. K.torsion y (in_left y bs (x ∷ []) k);
      commutes = λ y w k m. K.commutes y w (in_left y bs (x ∷ []) k) (in_left w bs (x ∷ []) m);
    } in
    let t = K.torsion x (in_right x bs (x ∷ []) (inl refl)) in
    let zs : 0 < s = positive_size in
    let grow : size G (bs ++ x ∷ []) ≡ G.p * s = size_push G bs x in
    let k = e / s in let l = f / s in
    let e1 = e % s in let f1 = f % s in
    let ek : k < G.p = (div-lt_iff_lt-mul zs).1 (subst (λ w. e < w) grow i) in
    let fl : l < G.p = (div-lt_iff_lt-mul zs).1 (subst (λ w. f < w) grow j) in
    let er : e1 < s = mod-lt e zs in
    let fr : f1 < s = mod-lt f zs in
    let ee : k * s + e1 ≡ e = div-add-mod' e s in
    let fe : l * s + f1 ≡ f = div-add-mod' f s in
    let pe1 : embed G (bs ++ x ∷ []) e ≡ product G (embed G bs e1) (power G x k) =
    ap (embed G (bs ++ x ∷ [])) (sym ee) ∙ embed_push L z bs x e1 k (elements_of bs K1) t.element er ek in
    let pf1 : embed G (bs ++ x ∷ []) f ≡ product G (embed G bs f1) (power G x l) =
    ap (embed G (bs ++ x ∷ [])) (sym fe) ∙ embed_push L z bs x f1 l (elements_of bs K1) t.element fr fl in
    let eq : product G (embed G bs e1) (power G x k) ≡ product G (embed G bs f1) (power G x l) = sym pe1 ∙ h
    ∙ pf1 in
    elim (cases_lt k l) [
      | inl a ↦ absurd (fresh (powers_differ L q pe z bs K1 x e1 f1 k l t er fr a fl eq))
      | inr a ↦ elim (cases_lt l k) [
        | inl b ↦ absurd (fresh (powers_differ L q pe z bs K1 x f1 e1 l k t fr er b ek (sym eq)))
        | inr b ↦ (
            let kl : k ≡ l = omega arith in
            let low : e1 ≡ f1 = one e1 f1 er fr (same_right L (power G x k) (embed G bs e1) (embed G bs f1)
            (power_below L x k t.element)
            (embed_below L bs e1 (elements_of bs K1)) (embed_below L bs f1 (elements_of bs K1))
            (eq ∙ ap (λ w. product G (embed G bs f1) (power G x w)) (sym kl))) in
            sym ee ∙ ap (λ w. w * s + e1) kl ∙ ap (λ w. l * s + w) low ∙ fe)
      ]
    ]
  where
    positive_size : 0 < size G bs
    positive_size = let r = generated_unit L z bs in omega (arith, r.1)
