use Rattle.std.proofs.Common.{◌≡◌, ℕ, inl, arith, ap, map, sym, ◌∙◌, refl}
use Rattle.std.proofs.Common.{◌++◌, ◌∷◌, [], List}
use Rattle.std.proofs.lemmas.List.{map_push}
use Rattle.fp_rows.specs.Values.{MatrixValue}
use Rattle.linear_algebra.specs.Rows.{entry, pivot}
use Rattle.neg_basis.proofs.BasisLemmas.{basis_push}
use Rattle.neg_basis.proofs.Prepared.{nothing_left, is_new}
use Rattle.neg_basis.proofs.ReadyLemmas.{ready_with}
use Rattle.neg_basis.proofs.steps.insert.Goals as goal

pub returns-else-head-len-clause-added : goal.returns-else-head-len-clause-added
returns-else-head-len-clause-added c = inl (
  refl,
  refl,
  nothing_left (entry c.args.v.now.entries) c.prepare-head.new.v.entries c.prepare-head.ensures.field
      c.prepare-head.ensures.prepared
      (omega (
        arith,
        c.prepare-head.ensures.place,
        c.if-head-len.false,
        c.len.ensures,
        c.prepare-head.ensures.row.length_is,
      )),
)

pub returns-else-head-len-clause-ready : goal.returns-else-head-len-clause-ready
returns-else-head-len-clause-ready c =
    ready_with c.prepare-head.new.v c.requires (c.prepare-head.ensures.prime ∙ c.requires.prime)
    c.prepare-head.ensures.row

pub returns-in_ok-push-3-clause-ready : goal.returns-in_ok-push-3-clause-ready
returns-in_ok-push-3-clause-ready c =
    let rows : List (List ℕ) = c.args.found.now.vectors.rows in
    let w : List ℕ = c.prepare-head.new.v.entries in
    let e : c.push.new.self.rows ≡ rows ++ w ∷ [] =
    ap (λ (m : MatrixValue). m.rows) c.in_ok-push.ensures.pushed
    ∙ ap (λ (r : List ℕ). rows ++ r ∷ []) c.view.ensures.entries in
    record {
      same_field = ap (λ (m : MatrixValue). m.p) c.in_ok-push.ensures.pushed;
      same_width = ap (λ (m : MatrixValue). m.width) c.in_ok-push.ensures.pushed;
      basis = rw e (basis_push w c.requires.basis (is_new c.prepare-head.ensures.prepared
          (omega (
            arith,
            c.prepare-head.ensures.place,
            c.if-head-len.true,
            c.len.ensures,
            c.prepare-head.ensures.row.length_is,
          ))));
      heads_are = c.in_ok-push-2.ensures.items
          ∙ ap (λ (hs : List ℕ). hs ++ c.prepare-head.result ∷ []) c.requires.heads_are
          ∙ ap (λ (h : ℕ). map pivot rows ++ h ∷ []) c.prepare-head.ensures.place
          ∙ sym (map_push pivot rows w) ∙ ap (map pivot) (sym e);
      prime = c.prepare-head.ensures.prime ∙ c.requires.prime;
      row = c.prepare-head.ensures.row;
    }
