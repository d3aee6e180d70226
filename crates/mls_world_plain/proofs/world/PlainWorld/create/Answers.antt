use Rattle.std.proofs.Common.{ℕ, ◌≡◌, length, refl, sym, ap, subst, ◌∙◌, arith}
use Rattle.std.proofs.lemmas.List.{length-map}
use Rattle.mls_model.specs.declared.origin.Origin.TheVariants as from
use Rattle.mls_model.specs.Candidate.{Candidate, create_group}
use Rattle.mls_model.specs.Journal.{new_journal}
use Rattle.mls_tree.proofs.RefusalLaws.{one_number, not_refused}
use Rattle.mls_model.specs.World.{Entrant, World, entrant_at, with_new_member}
use Rattle.mls_world_plain.specs.StoredWorld.{seat_of}
use Rattle.mls_world_plain.proofs.Entering.{create_is, create_absent, create_refused, entrant_within}
use Rattle.mls_world_plain.proofs.world.PlainWorld.create.Goals as goal

pub returns-in-Err-clause-does : goal.returns-in-Err-clause-does
returns-in-Err-clause-does g c = (refl, λ _. create_absent g.S.Suite.crypto c.args.self.now c.args.candidate c.args.group.now c.args.seed.now _ c.in-Err.ensures)

pub returns-in-Err-create-clause-does : goal.returns-in-Err-create-clause-does
returns-in-Err-create-clause-does g c =
    let same : c.entrant.inside.candidate ≡ c.in-Ok.entrant.now.candidate = ap (λ (x : Entrant). x.candidate) c.entrant.view_is in (
      refl,
      λ h. create_refused g.S.Suite.crypto c.args.self.now c.args.candidate c.args.group.now c.args.seed.now c.in-Ok.entrant.now _ c.in-Ok.ensures
          (ap (λ (x : Candidate). create_group g.S.Suite.crypto x c.args.group.now c.args.seed.now) (sym same) ∙ c.in-Err-create.ensures.answer h),
    )

pub begin_member-requires : goal.begin_member-requires
begin_member-requires g c = entrant_within c.args.self.now c.args.candidate c.in-Ok.entrant.now c.in-Ok.ensures

pub returns-clause-does : goal.returns-clause-does
returns-clause-does g c =
    let w : World = c.args.self.now in
    let same : c.entrant.inside.candidate ≡ c.in-Ok.entrant.now.candidate = ap (λ (x : Entrant). x.candidate) c.entrant.view_is in
    let stored = c.self.inside.seats.ok.0 in
    let seats : length w.seats ≡ length c.self.inside.seats.items = ap (λ (x : World). length x.seats) (sym c.self.view_is) ∙ length-map c.self.inside.seats.items (seat_of c.self.inside.journals.list) in
    let at : c.len.result ≡ length w.seats = omega (arith, c.len.ensures, stored, seats) in
    create_is g.S.Suite.crypto w c.begin_member.new.self c.args.candidate c.in_ok-number.number c.args.group.now c.args.seed.now c.in-Ok.entrant.now c.in-Ok-create.member c.in-Ok.ensures
    (ap (λ (x : Candidate). create_group g.S.Suite.crypto x c.args.group.now c.args.seed.now) (sym same) ∙ c.in-Ok-create.ensures.answer)
    c.in_ok-number.ensures.number
    (λ x q. subst (λ (i : ℕ). c.begin_member.new.self ≡ with_new_member w c.args.candidate x (record { member = c.in-Ok-create.member; journal = new_journal (from.Creation i) })) at (c.in_ok-number.ensures.ok x q))

pub returns-in-Err-clause-outright : goal.returns-in-Err-clause-outright
returns-in-Err-clause-outright g c = λ n h. one_number (entrant_at c.args.self.now c.args.candidate) _ c.in-Err.ensures n h

pub returns-in-Err-create-clause-outright : goal.returns-in-Err-create-clause-outright
returns-in-Err-create-clause-outright g c = λ n h. absurd (not_refused (entrant_at c.args.self.now c.args.candidate) _ c.in-Ok.ensures n h)

pub returns-in_err-number-clause-outright : goal.returns-in_err-number-clause-outright
returns-in_err-number-clause-outright g c = λ n h. absurd (not_refused (entrant_at c.args.self.now c.args.candidate) _ c.in-Ok.ensures n h)

pub returns-clause-outright : goal.returns-clause-outright
returns-clause-outright g c = λ n h. not_refused (entrant_at c.args.self.now c.args.candidate) _ c.in-Ok.ensures n h
