use Rattle.std.proofs.Common.{◌≡◌, ◌≤◌, ◌+◌, ◌*◌, get_or, arith, ap, ◌∙◌}
use Rattle.std.proofs.lemmas.List.{get_or_default}
use Rattle.radical_layers.specs.Placing.{size_of}
use Rattle.group_algebra.specs.Places.{start_at}
use Rattle.group_algebra.proofs.LayerPlaces.{part-within, start_within}
use Rattle.group_algebra.proofs.places.Places.layer_place.Goals as goal

pub overflow_mul-result : goal.overflow_mul-result
overflow_mul-result c =
    let w : c.args.rank * start_at c.args.self.now c.args.i + c.args.block * get_or c.args.self.now c.args.i
    0 +
    get_or c.args.self.now c.args.i 0 ≤ size_of c.args.self.now * c.args.rank =
    part-within (size_of c.args.self.now) c.args.rank c.args.block (start_at c.args.self.now c.args.i)
    (get_or c.args.self.now c.args.i 0) c.requires.block
    (start_within c.args.self.now c.args.i c.requires.layer) in
    omega (arith, w, ap (λ z. c.args.rank * z) c.requires.start, c.requires.small)

pub overflow_mul-result-2 : goal.overflow_mul-result-2
overflow_mul-result-2 c =
    let w : c.args.rank * start_at c.args.self.now c.args.i + c.args.block * get_or c.args.self.now c.args.i
    0 +
    get_or c.args.self.now c.args.i 0 ≤ size_of c.args.self.now * c.args.rank =
    part-within (size_of c.args.self.now) c.args.rank c.args.block (start_at c.args.self.now c.args.i)
    (get_or c.args.self.now c.args.i 0) c.requires.block
    (start_within c.args.self.now c.args.i c.requires.layer) in
    let e : c.index.result.now ≡ get_or c.args.self.now c.args.i 0 = c.index.ensures
    ∙ ap (λ z. get_or z c.args.i c.index.result.now) c.self.view_is
    ∙ get_or_default c.args.self.now c.args.i c.index.result.now 0 c.requires.layer in
    omega (arith, w, ap (λ z. c.args.block * z) e, c.requires.small)

pub overflow_add-result : goal.overflow_add-result
overflow_add-result c =
    let w : c.args.rank * start_at c.args.self.now c.args.i + c.args.block * get_or c.args.self.now c.args.i
    0 +
    get_or c.args.self.now c.args.i 0 ≤ size_of c.args.self.now * c.args.rank =
    part-within (size_of c.args.self.now) c.args.rank c.args.block (start_at c.args.self.now c.args.i)
    (get_or c.args.self.now c.args.i 0) c.requires.block
    (start_within c.args.self.now c.args.i c.requires.layer) in
    let e : c.index.result.now ≡ get_or c.args.self.now c.args.i 0 = c.index.ensures
    ∙ ap (λ z. get_or z c.args.i c.index.result.now) c.self.view_is
    ∙ get_or_default c.args.self.now c.args.i c.index.result.now 0 c.requires.layer in
    omega (
      arith,
      w,
      ap (λ z. c.args.rank * z) c.requires.start,
      ap (λ z. c.args.block * z) e,
      c.requires.small,
    )

pub returns-clause-value : goal.returns-clause-value
returns-clause-value c =
    let e : c.index.result.now ≡ get_or c.args.self.now c.args.i 0 = c.index.ensures
    ∙ ap (λ z. get_or z c.args.i c.index.result.now) c.self.view_is
    ∙ get_or_default c.args.self.now c.args.i c.index.result.now 0 c.requires.layer in
    ap (λ z. c.args.rank * z + c.args.block * c.index.result.now) c.requires.start
    ∙ ap (λ z. c.args.rank * start_at c.args.self.now c.args.i + c.args.block * z) e

pub returns-clause-within : goal.returns-clause-within
returns-clause-within c =
    let w : c.args.rank * start_at c.args.self.now c.args.i + c.args.block * get_or c.args.self.now c.args.i
    0 +
    get_or c.args.self.now c.args.i 0 ≤ size_of c.args.self.now * c.args.rank =
    part-within (size_of c.args.self.now) c.args.rank c.args.block (start_at c.args.self.now c.args.i)
    (get_or c.args.self.now c.args.i 0) c.requires.block
    (start_within c.args.self.now c.args.i c.requires.layer) in
    let e : c.index.result.now ≡ get_or c.args.self.now c.args.i 0 = c.index.ensures
    ∙ ap (λ z. get_or z c.args.i c.index.result.now) c.self.view_is
    ∙ get_or_default c.args.self.now c.args.i c.index.result.now 0 c.requires.layer in
    omega (arith, w, ap (λ z. c.args.rank * z) c.requires.start, ap (λ z. c.args.block * z) e)
