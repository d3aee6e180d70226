-- The format of extensions (RFC 9420, section 7.2).
use Rattle.std.specs.Prelude.{refl}
use Rattle.mls_wire.specs.Format.{Format}
use Rattle.mls_wire.specs.Combine.{◌⨾◌, image, byte_string, uint16}
use Rattle.mls_wire.specs.CombineReads.{IsNonempty}
use Rattle.mls_leaf.specs.Nonempty.{uint16_nonempty, first_nonempty}
use Rattle.mls_leaf.specs.declared.extension.Extension as declared

-- (RFC 9420, section 7.2) uint16 type, data<V>
unfoldable pub extension : Format declared.Extension
extension = image (uint16 ⨾ byte_string) (λ x. record { kind = x.0; content = x.1 }) (λ v. (v.kind, v.content)) (λ v. refl) (λ x _. refl)

pub extension_nonempty : IsNonempty extension
unfolding extension
extension_nonempty v fits = first_nonempty uint16 byte_string uint16_nonempty (v.kind, v.content) fits
