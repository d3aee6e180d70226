use Rattle.std.proofs.lemmas.Result.{err_from_is_err_and}
use Rattle.std.proofs.Common.{ℕ, List, arith, refl, sym, ap, ◌∙◌}
use Rattle.mls_treekem_model.specs.Seeds.{seal_seed}
use Rattle.mls_welcome.specs.Entries.{entry_of}
use Rattle.mls_welcome.specs.Faults.{number_of}
use Rattle.mls_welcome.proofs.SealedEntries.{entries_more, entries_fail, entries_end}
use Rattle.mls_welcome.proofs.entries.Sealer.entries.Goals as goal

pub returns-in_err-entry : goal.returns-in_err-entry
returns-in_err-entry g c =
    λ secrets all.
    let p = err_from_is_err_and c.from_residual-in_err-entry.result c.from_residual-in_err-entry.ensures.1 in
    rw (p.1, p.2) (λ other.
    entries_fail g.S.Suite.crypto c.args.encrypted_info.now c.args.self.now.joiner_secret.now (seal_seed c.args.self.now.seed.now) c.args.joiners.now c.args.first
    c.loop-joiner.entries.items c.loop-joiner.number c.loop-joiner.joiner-index c.loop-joiner.invariant.left
    c.joiner-item.result (omega arith) c.joiner-item.is (number_of c.in_err-entry.field-0.0)
    (ap (λ (x : List ℕ). entry_of g.S.Suite.crypto x c.args.self.now c.joiner-item.result c.loop-joiner.number) (sym c.in_ok-info.ensures) ∙ c.in_err-entry.ensures other) secrets all)

pub loop-joiner-preserved : goal.loop-joiner-preserved
loop-joiner-preserved g c =
    record {
      left =
          entries_more g.S.Suite.crypto c.args.encrypted_info.now c.args.self.now.joiner_secret.now (seal_seed c.args.self.now.seed.now) c.args.joiners.now c.args.first
          c.loop-joiner.entries.items c.loop-joiner.number c.loop-joiner.joiner-index c.loop-joiner.invariant.left
          c.joiner-item.result (omega arith) c.joiner-item.is c.in_ok-entry.entry
          (ap (λ (x : List ℕ). entry_of g.S.Suite.crypto x c.args.self.now c.joiner-item.result c.loop-joiner.number) (sym c.in_ok-info.ensures) ∙ c.in_ok-entry.ensures) c.push.new.self.items c.in_ok-push.ensures.items _ refl;
      number = omega (arith, c.loop-joiner.invariant.number);
    }

pub returns : goal.returns
returns g c =
    entries_end g.S.Suite.crypto c.args.encrypted_info.now c.args.self.now.joiner_secret.now (seal_seed c.args.self.now.seed.now) c.args.joiners.now c.args.first
    c.loop-joiner.entries.items c.loop-joiner.number c.loop-joiner.joiner-index c.loop-joiner.invariant.left (omega arith)
