use Rattle.ring_degree.proofs.Inserting.{put-descending, put-gains}
use Rattle.ring_degree.proofs.reached.insert.Goals as goal

pub returns-in_ok-insert-clause-descending : goal.returns-in_ok-insert-clause-descending
returns-in_ok-insert-clause-descending c = put-descending c.args.list.now.items c.deref.result.now
    c.insert.new.self.items c.in-Err.i c.args.m c.deref.ensures.value c.in_ok-insert.ensures.items
    c.in-Err.ensures.within c.requires c.in-Err.ensures.above c.in-Err.ensures.here

pub returns-in_ok-insert-clause-members : goal.returns-in_ok-insert-clause-members
returns-in_ok-insert-clause-members c = put-gains c.args.list.now.items c.deref.result.now
    c.insert.new.self.items c.in-Err.i c.args.m c.deref.ensures.value c.in_ok-insert.ensures.items
    c.in-Err.ensures.within
