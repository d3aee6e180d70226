use Rattle.mls_world_plain.proofs.Changing.{none_behind}
use Rattle.mls_world_plain.proofs.Following.{shared_journal, shared_follows, added_goes_on, added_before, added_journal, added_within, added_more, added_follows}
use Rattle.mls_world_plain.proofs.journal.Journals.follow.Goals as goal

pub set_follower-requires-clause-there : goal.set_follower-requires-clause-there
set_follower-requires-clause-there c = added_before c.args.self.now.list c.add-number.new.self.list c.args.before c.args.entry c.add-number.result c.add-number.ensures.list c.add-number.ensures.number c.requires.there

pub set_follower-requires-clause-on : goal.set_follower-requires-clause-on
set_follower-requires-clause-on c = added_goes_on c.args.self.now.list c.add-number.new.self.list c.args.before c.args.entry c.add-number.result c.add-number.ensures.list c.add-number.ensures.number c.requires.there

pub returns-in-Some-clause-is : goal.returns-in-Some-clause-is
returns-in-Some-clause-is c = shared_journal c.args.self.now c.args.before c.args.entry c.in-Some.number c.in-Some.ensures

pub returns-in-Some-clause-within : goal.returns-in-Some-clause-within
returns-in-Some-clause-within c = c.in-Some.ensures.1.within

pub returns-in-Some-clause-more : goal.returns-in-Some-clause-more
returns-in-Some-clause-more c = none_behind c.args.self.now.list

pub returns-in-Some-clause-follows : goal.returns-in-Some-clause-follows
returns-in-Some-clause-follows c = shared_follows c.args.self.now c.args.before c.args.entry c.in-Some.number c.in-Some.ensures

pub returns-in-None-clause-is : goal.returns-in-None-clause-is
returns-in-None-clause-is c = added_journal c.args.self.now.list c.add-number.new.self.list c.args.before c.args.entry c.add-number.result c.add-number.ensures.list c.add-number.ensures.number c.set_follower.new.self.list c.set_follower.ensures.list

pub returns-in-None-clause-within : goal.returns-in-None-clause-within
returns-in-None-clause-within c = added_within c.args.self.now.list c.add-number.new.self.list c.args.before c.args.entry c.add-number.result c.add-number.ensures.list c.add-number.ensures.number c.set_follower.new.self.list c.set_follower.ensures.list

pub returns-in-None-clause-more : goal.returns-in-None-clause-more
returns-in-None-clause-more c = added_more c.args.self.now.list c.add-number.new.self.list c.args.before c.args.entry c.add-number.result c.add-number.ensures.list c.add-number.ensures.number c.set_follower.new.self.list c.set_follower.ensures.list

pub returns-in-None-clause-follows : goal.returns-in-None-clause-follows
returns-in-None-clause-follows c = added_follows c.args.self.now c.add-number.new.self c.set_follower.new.self c.args.before c.args.entry c.add-number.result c.in-None.ensures c.add-number.ensures.list c.add-number.ensures.followers c.add-number.ensures.number c.set_follower.ensures.list c.set_follower.ensures.followers
