-- The lists are made one after another, and are those of the layer.
use Rattle.std.proofs.Common.{sym, ◌∙◌, ap, subst, subst₂, ◌+◌, ◌-◌, ◌*◌, ◌^◌, ◌<◌, ◌≤◌, arith, get_or}
use Rattle.pc_group.specs.Tables.{AreNumbers}
use Rattle.pc_group.proofs.Powers.{part-small, next-small}
use Rattle.pc_group.proofs.LayerLists.{AreScaled, AreGenerators, AreElements, AreImages, scaled-numbers}
use Rattle.pc_group.proofs.LayerLists.{powers-are, commutators-are, images-are}
use Rattle.pc_group.proofs.layer.Layer.new.Goals as goal

pub small_power-scale-requires-clause-small : goal.small_power-scale-requires-clause-small
small_power-scale-requires-clause-small c =
    let P = c.args.p.now in
    part-small P.prime c.value-prime.result c.args.i P.gens (c.value-prime.ensures
    ∙ c.prime.ensures.value) c.prime.ensures.prime c.requires.last c.requires.few

pub element_list-requires-clause-commutators : goal.element_list-requires-clause-commutators
element_list-requires-clause-commutators c =
    let P = c.args.p.now in
    let A = c.requires.words.commutators-are in
    let scale = c.small_power-scale.ensures.value
    ∙ ap (λ p. p ^ c.args.i) (c.value-prime.ensures ∙ c.prime.ensures.value) in
    subst₂ (λ n xs. AreNumbers ((n + 1) * (n + 1)) c.args.table.width xs) (sym c.gens-n.ensures.value)
    (sym c.deref-4.ensures.value)
    (scaled-numbers P c.args.i c.prime.ensures.prime c.requires.last c.args.table c.requires.table
    ((P.gens + 1) * (P.gens + 1)) c.args.words.now.commutators.items c.in_ok-commutators.commutators.items
    A.0 (λ k l. (A.1 k l).1)
    (subst₂ (λ s xs. AreScaled s xs c.in_ok-commutators.commutators.items) scale c.deref-2.ensures.value
    c.in_ok-commutators.ensures))

pub invariant_of-result : goal.invariant_of-result
invariant_of-result c =
    let P = c.args.p.now in
    let S = c.args.table in
    let i = c.args.i in
    let prime = c.value-prime.ensures ∙ c.prime.ensures.value in
    let n = c.gens-n.ensures.value in
    let s = c.prime.ensures.prime in
    let last = c.requires.last in
    let bound = c.gens-n.ensures.bound in
    let scale = c.small_power-scale.ensures.value ∙ ap (λ p. p ^ i) prime in
    let A = c.requires.words in
    let below = scaled-numbers P i s last S c.requires.table in
    record {
      some = omega (arith, prime, s);
      inside = omega (arith, last, n);
      few = bound;
      small =
          subst₂ (λ p w. p * w ≤ 256) (sym prime) (sym c.requires.table.width-is)
          (next-small P.prime i P.gens s c.requires.first last c.requires.few);
      images_below = record {
        len = c.in_ok-images.ensures.0;
        small = λ k l. (c.in_ok-images.ensures.1 k l).1;
      };
      powers_below =
          subst (λ n. AreNumbers (n + 1) S.width c.in_ok-powers.powers.items) (sym n)
          (below (P.gens + 1) c.args.words.now.powers.items c.in_ok-powers.powers.items A.powers-are.0
          (λ k l. (A.powers-are.1 k l).1)
          (subst₂ (λ s xs. AreScaled s xs c.in_ok-powers.powers.items) scale c.deref.ensures.value
          c.in_ok-powers.ensures));
      commutators_below =
          subst (λ n. AreNumbers ((n + 1) * (n + 1)) S.width c.in_ok-commutators.commutators.items) (sym n)
          (below ((P.gens + 1) * (P.gens + 1)) c.args.words.now.commutators.items
          c.in_ok-commutators.commutators.items A.commutators-are.0 (λ k l. (A.commutators-are.1 k l).1)
          (subst₂ (λ s xs. AreScaled s xs c.in_ok-commutators.commutators.items) scale
          c.deref-2.ensures.value c.in_ok-commutators.ensures));
      generators_below = record {
        len = c.in_ok-generators.ensures.0;
        small = λ k l.
            subst (λ w. get_or c.in_ok-generators.generators.items k 0 < w)
            (ap (λ p. p ^ (c.gens-n.result - i)) prime ∙ ap (λ n. P.prime ^ (n - i)) n
            ∙ sym c.requires.table.width-is) (c.in_ok-generators.ensures.1 k l).1;
      };
    }

pub returns-clause-layer : goal.returns-clause-layer
returns-clause-layer c =
    let P = c.args.p.now in
    let S = c.args.table in
    let i = c.args.i in
    let prime = c.value-prime.ensures ∙ c.prime.ensures.value in
    let n = c.gens-n.ensures.value in
    let s = c.prime.ensures.prime in
    let V = c.gens-n.ensures.valid in
    let first = c.requires.first in
    let last = c.requires.last in
    let scale = c.small_power-scale.ensures.value ∙ ap (λ p. p ^ i) prime in
    let own = c.in_ok-powers.powers.items in
    let pairs = c.in_ok-commutators.commutators.items in
    let generators = c.in_ok-generators.generators.items in
    let elements = c.in_ok-elements.elements.items in
    let images = c.in_ok-images.images.items in
    let G : AreGenerators P.prime P.gens i generators =
    subst₂ (λ p n. AreGenerators p n i generators) prime n c.in_ok-generators.ensures in
    let E : AreElements S P.gens i generators pairs elements =
    subst (λ n. AreElements S n i generators pairs elements) n
    (subst₂ (λ xs ys. AreElements S c.gens-n.result i xs ys elements) c.deref-3.ensures.value
    c.deref-4.ensures.value c.in_ok-elements.ensures) in
    let I : AreImages S P.prime i elements images =
    subst₂ (λ p xs. AreImages S p i xs images) prime c.deref-5.ensures.value c.in_ok-images.ensures in
    let C = commutators-are P i s V first c.args.words.now c.requires.words pairs
    (subst₂ (λ s xs. AreScaled s xs pairs) scale c.deref-2.ensures.value c.in_ok-commutators.ensures) in
    record {
      some = s;
      valid = V;
      prime-is = prime;
      gens-is = sym n;
      index = first;
      count = omega (arith, last);
      table-is = c.requires.table;
      images-are =
          images-are P i last S generators pairs elements images G (λ j a l. C j i first a l) E I;
      powers-are =
          powers-are P i s V first c.args.words.now c.requires.words own
          (subst₂ (λ s xs. AreScaled s xs own) scale c.deref.ensures.value c.in_ok-powers.ensures);
      commutators-are = λ k j a l b. C k j (omega (arith, first, a)) l b;
      generators-are = λ j a l. (G.1 j (omega (arith, l))).0 a;
    }
