use Rattle.std.proofs.Common.{◌≡◌, ◌+◌, ◌∷◌, drop, sym, ap, subst, ◌∙◌, arith}
use Rattle.std.proofs.lemmas.List.{drop_more, drop_all}
use Rattle.mls_leaf.specs.declared.extension.Extension.{Extension}
use Rattle.mls_leaf.specs.GroupExtensions.{are_allowed}
use Rattle.mls_leaf.proofs.TypeMarksLaws.{AllowedFrom, allowed_begins, allowed_goes_on, allowed_stops, allowed_ends}
use Rattle.mls_leaf.proofs.group_extensions.GroupExtensions.is_allowed.Goals as goal

pub loop-entry-init : goal.loop-entry-init
loop-entry-init c = allowed_begins c.no_marks-marks.result c.args.entries.now c.no_marks-marks.ensures

pub returns-then-not-mark_type : goal.returns-then-not-mark_type
returns-then-not-mark_type c =
    let all = c.args.entries.now in
    let i = c.loop-entry.entry-index in
    let v = c.entry-item.result in
    let front : drop i all ≡ v ∷ drop (i + 1) all = drop_more all i v c.loop-entry-test.true ∙ ap (λ (x : Extension). x ∷ drop (i + 1) all) (sym c.entry-item.is) in
    sym (allowed_stops (are_allowed all) c.loop-entry.marks v (drop (i + 1) all) (sym c.mark_type.ensures.new ∙ c.if-not-mark_type.true) (subst (AllowedFrom (are_allowed all) c.loop-entry.marks) front c.loop-entry.invariant))

pub loop-entry-preserved : goal.loop-entry-preserved
loop-entry-preserved c =
    let all = c.args.entries.now in
    let i = c.loop-entry.entry-index in
    let v = c.entry-item.result in
    let front : drop i all ≡ v ∷ drop (i + 1) all = drop_more all i v c.loop-entry-test.true ∙ ap (λ (x : Extension). x ∷ drop (i + 1) all) (sym c.entry-item.is) in
    rw (c.mark_type.ensures.marked c.if-not-mark_type.false)
    (allowed_goes_on (are_allowed all) c.loop-entry.marks v (drop (i + 1) all) (sym c.mark_type.ensures.new ∙ c.if-not-mark_type.false) (subst (AllowedFrom (are_allowed all) c.loop-entry.marks) front c.loop-entry.invariant))

pub returns : goal.returns
returns c =
    let all = c.args.entries.now in
    sym (allowed_ends (are_allowed all) c.loop-entry.marks (subst (AllowedFrom (are_allowed all) c.loop-entry.marks) (drop_all c.loop-entry.entry-index all (omega arith)) c.loop-entry.invariant))
