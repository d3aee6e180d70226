use Rattle.std.proofs.Common.{ℕ, ◌+◌, ◌≡◌, List, length, ap, ◌∙◌}
use Rattle.std.specs.Global.{Vec}
use Rattle.mls_world_plain.proofs.Recording.{recorded_is, stored_recorded, told_both, told_one, replied_both, replied_one}
use Rattle.mls_world_plain.proofs.world.PlainWorld.record.Goals as goal

pub invariant_of-self-in-Some : goal.invariant_of-self-in-Some
invariant_of-self-in-Some g c =
    stored_recorded c.self.inside.seats.items c.self.inside.made.items c.reserve-2.new.self.items c.push_reserved.new.self.items c.self.inside.journals.list c.reserve-3.new.self.list c.follow-journal.new.self.list _ _ _
    c.self.invariant c.in_ok-reserve-3.ensures.list c.follow-journal.ensures.more c.in_ok-reserve-2.ensures.items c.push_reserved.ensures.items c.follow-journal.ensures.within c.follow-journal.ensures.is

pub invariant_of-self-in-None : goal.invariant_of-self-in-None
invariant_of-self-in-None g c =
    stored_recorded c.self.inside.seats.items c.self.inside.made.items c.reserve-2.new.self.items c.push_reserved.new.self.items c.self.inside.journals.list c.reserve-3.new.self.list c.follow-journal.new.self.list _ _ _
    c.self.invariant c.in_ok-reserve-3.ensures.list c.follow-journal.ensures.more c.in_ok-reserve-2.ensures.items c.push_reserved.ensures.items c.follow-journal.ensures.within c.follow-journal.ensures.is

pub returns-in-Some-clause-ok : goal.returns-in-Some-clause-ok
returns-in-Some-clause-ok g c = λ s p found pends.
    let count : c.len-message.result ≡ length c.self.inside.messages.items = c.len-message.ensures ∙ c.reserve.new.self.ok.0 ∙ ap (λ (l : List (List ℕ)). length l) c.in_ok-reserve.ensures.items in
    recorded_is (λ (v : Vec ℕ). v.items) c.args.self.now c.self.inside.entrants.items c.self.inside.seats.items c.self.inside.messages.items c.push_reserved-in-Some.new.self.items
    c.self.inside.made.items c.reserve-2.new.self.items c.push_reserved.new.self.items c.self.inside.journals.list c.reserve-3.new.self.list c.follow-journal.new.self.list c.args.k c.follow-journal.result c.len-message.result
    c.index.result.now (record { member = c.behind-self.inside.member; journal = c.behind-self.inside.journal }) s p c.args.made.commit.items c.from_vec-commit.result c.args.made.welcome
    c.args.named.names.items c.args.named.adds.items c.pending_epoch-epoch_secret.result c.in_ok-welcome.welcome _
    c.self.view_is c.self.invariant c.behind-self.view_is c.index.ensures c.requires found (c.pending_epoch-epoch_secret.ensures s p found pends) count
    c.in_ok-reserve-3.ensures.list c.follow-journal.ensures.more c.follow-journal.ensures.is (c.from_vec-commit.ensures ∙ c.in_ok-from_slice.ensures.items ∙ c.deref.ensures.value)
    c.in_ok-welcome.ensures c.in_ok-reserve-2.ensures.items c.push_reserved.ensures.items
    (told_both (λ (v : Vec ℕ). v.items) c.self.inside.messages.items c.reserve.new.self.items c.push_reserved-2.new.self.items c.push_reserved-in-Some.new.self.items c.args.made.commit.items _ _ c.args.made.welcome c.in-Some.bytes
    c.in_ok-reserve.ensures.items c.push_reserved-2.ensures.items c.from_vec.ensures c.push_reserved-in-Some.ensures.items c.from_vec-in-Some.ensures c.in-Some.is)
    (replied_both (λ (v : Vec ℕ). v.items) (c.len-message.result + 1) c.args.made.welcome c.in-Some.bytes c.in-Some.is)

pub returns-in-None-clause-ok : goal.returns-in-None-clause-ok
returns-in-None-clause-ok g c = λ s p found pends.
    let count : c.len-message.result ≡ length c.self.inside.messages.items = c.len-message.ensures ∙ c.reserve.new.self.ok.0 ∙ ap (λ (l : List (List ℕ)). length l) c.in_ok-reserve.ensures.items in
    recorded_is (λ (v : Vec ℕ). v.items) c.args.self.now c.self.inside.entrants.items c.self.inside.seats.items c.self.inside.messages.items c.push_reserved-2.new.self.items
    c.self.inside.made.items c.reserve-2.new.self.items c.push_reserved.new.self.items c.self.inside.journals.list c.reserve-3.new.self.list c.follow-journal.new.self.list c.args.k c.follow-journal.result c.len-message.result
    c.index.result.now (record { member = c.behind-self.inside.member; journal = c.behind-self.inside.journal }) s p c.args.made.commit.items c.from_vec-commit.result c.args.made.welcome
    c.args.named.names.items c.args.named.adds.items c.pending_epoch-epoch_secret.result c.in_ok-welcome.welcome _
    c.self.view_is c.self.invariant c.behind-self.view_is c.index.ensures c.requires found (c.pending_epoch-epoch_secret.ensures s p found pends) count
    c.in_ok-reserve-3.ensures.list c.follow-journal.ensures.more c.follow-journal.ensures.is (c.from_vec-commit.ensures ∙ c.in_ok-from_slice.ensures.items ∙ c.deref.ensures.value)
    c.in_ok-welcome.ensures c.in_ok-reserve-2.ensures.items c.push_reserved.ensures.items
    (told_one (λ (v : Vec ℕ). v.items) c.self.inside.messages.items c.reserve.new.self.items c.push_reserved-2.new.self.items c.args.made.commit.items _ c.args.made.welcome
    c.in_ok-reserve.ensures.items c.push_reserved-2.ensures.items c.from_vec.ensures c.in-None.is)
    (replied_one (λ (v : Vec ℕ). v.items) (c.len-message.result + 1) c.args.made.welcome c.in-None.is)
