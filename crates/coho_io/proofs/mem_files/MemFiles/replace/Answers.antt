use Rattle.std.proofs.Common.{◌≡◌, ◌∙◌, sym, ap, subst}
use Rattle.std.specs.List.{position}
use Rattle.coho_io.specs.MemFiles.{is_at, after_put}
use Rattle.coho_io.specs.Stored.{entry_of}
use Rattle.coho_io.proofs.Changed.{put_there, put_outside}
use Rattle.std.proofs.Common.{◌++◌, map}
use Rattle.coho_io.proofs.mem_files.MemFiles.replace.Goals as goal

pub returns-in-Some-clause-ok : goal.returns-in-Some-clause-ok
returns-in-Some-clause-ok c =
    let file = c.index_mut.result.now in
    let place = ap (position (λ f. is_at c.args.path.now (entry_of f))) (sym c.deref.ensures.value)
    ∙ sym c.in-Some.ensures in
    put_there c.self.inside.files.items c.self.inside.outside c.self.inside.calls
    c.self.inside.failing.items c.args.path.now c.args.bytes.now c.in-Some.i _ file place
    (subst (λ f. record (entry_of file) { bytes = c.extend_from_slice.new.self.items } ≡ record
    (entry_of f) { bytes = c.args.bytes.now }) c.index_mut.ensures.value
    (ap (λ bs. record (entry_of file) { bytes = bs }) (c.in_ok-extend_from_slice.ensures.items
    ∙ ap (λ bs. bs ++ c.args.bytes.now) c.new-copy.ensures.items)))
    ∙ ap (λ s. after_put s c.args.path.now c.args.bytes.now) c.self.view_is

pub returns-in_ok-push-in-None-clause-ok : goal.returns-in_ok-push-in-None-clause-ok
returns-in_ok-push-in-None-clause-ok c =
    let place = ap (position (λ f. is_at c.args.path.now (entry_of f))) (sym c.deref.ensures.value)
    ∙ sym c.in-None.ensures in
    let copied = c.in_ok-extend_from_slice.ensures.items
    ∙ ap (λ bs. bs ++ c.args.bytes.now) c.new-copy.ensures.items in
    ap (λ fs. record {
      files = map entry_of fs;
      outside = c.self.inside.outside;
      calls = c.self.inside.calls;
      failing =
          c.self.inside.failing.items;
    }) c.in_ok-push-in-None.ensures.items
    ∙ put_outside c.self.inside.files.items c.self.inside.outside c.self.inside.calls
    c.self.inside.failing.items c.args.path.now c.args.bytes.now _ place
    (ap (λ p. record {
      path = p;
      bytes = c.extend_from_slice.new.self.items;
      faults = c.self.inside.outside;
    }) c.in_ok-path-in-None.ensures.ok
    ∙ ap (λ bs. record {
      path = c.args.path.now;
      bytes = bs;
      faults = c.self.inside.outside;
    }) copied)
    ∙ ap (λ s. after_put s c.args.path.now c.args.bytes.now) c.self.view_is
