use Rattle.std.proofs.Common.{length, ◌∙◌, ap, sym}
use Rattle.mls_candidate.proofs.Saving.{good_is_loaded}
use Rattle.mls_candidate.proofs.candidate.Candidate.loaded_as_saved.Goals as goal

pub returns : goal.returns
returns g c =
    good_is_loaded g.S.Suite.crypto c.args.self.now c.requires
    (record {
      init = sym (ap (λ k. length k.init) c.self.view_is) ∙ c.has_32_bytes.ensures;
      leaf = sym (ap (λ k. length k.leaf) c.self.view_is) ∙ c.has_32_bytes-2.ensures;
      signing = sym (ap (λ k. length k.signing) c.self.view_is) ∙ c.has_32_bytes-3.ensures;
    })
