use Rattle.std.proofs.Common.{◌≡◌, ◌∙◌, ◌++◌, ℕ, ap, arith, length, map, sym, append_assoc}
use Rattle.std.proofs.lemmas.List.{length-map}
use Rattle.std.specs.List.{flat_map, range_with_len}
use Rattle.mls_cli_text.specs.Text.{entry_of}
use Rattle.mls_cli_json_page.specs.JsonPage.{member_at, members}
use Rattle.mls_cli_json_page.proofs.Ranges.{one_more}
use Rattle.mls_cli_json_page.proofs.members.put_members.Goals as goal

pub loop-number-preserved : goal.loop-number-preserved
loop-number-preserved c =
    let es = map entry_of c.args.lines.now in
    let i = c.loop-number.number in
    let before = flat_map (member_at es) (range_with_len 0 i) in (
      c.in_ok-put_member_at.ensures.0 ∙ ap (λ ts. ts ++ member_at es i) c.loop-number.invariant.0
          ∙ append_assoc c.args.writer.now.tokens before (member_at es i)
          ∙ ap (λ ts. c.args.writer.now.tokens ++ ts) (sym (one_more (member_at es) i)),
      c.in_ok-put_member_at.ensures.1 ∙ c.loop-number.invariant.1,
    )

pub returns : goal.returns
unfolding members
returns c =
    let es = map entry_of c.args.lines.now in
    let end : c.loop-number.number ≡ length es = omega (arith, length-map c.args.lines.now entry_of, c.loop-number-test.false, c.loop-number.auto.number-end) in
    (c.loop-number.invariant.0 ∙ ap (λ (n : ℕ). c.args.writer.now.tokens ++ flat_map (member_at es) (range_with_len 0 n)) end, c.loop-number.invariant.1)
