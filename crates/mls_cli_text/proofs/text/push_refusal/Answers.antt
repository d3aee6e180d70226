use Rattle.std.proofs.Common.{◌≡◌, ◌++◌, List, ℕ, codes, OnOk, subst}
use Rattle.std.specs.Fmt.{decimal}
use Rattle.mls_cli_text.proofs.text.push_refusal.Goals as goal

pub returns : goal.returns
returns c =
    subst (λ (name : List ℕ). OnOk c.push_named.result (c.push_named.new.text.items ≡ c.args.text.now.items ++ (decimal c.args.number ++ codes " " ++ name))) c.refusal_name.ensures c.push_named.ensures
