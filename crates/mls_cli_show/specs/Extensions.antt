-- The lines of the extensions that a group carries. Each name stands behind a prefix, which is
-- empty except for those of a proposal in a commit.
use Rattle.std.specs.Prelude.{ℕ, List, codes, map}
use Rattle.mls_leaf.specs.declared.extension.Extension.{Extension}
use Rattle.mls_cli_text.specs.Text.{Entry, entry, extension}

-- RFC 9420, section 13.4: an extension, by its type and its data
abbrev pub extension_entry : List ℕ → Extension → Entry
extension_entry prefix v = entry prefix (codes "extension") (extension v.kind v.content)

-- RFC 9420, section 8.1: the extensions of a group, each a line
abbrev pub extension_entries : List ℕ → List Extension → List Entry
extension_entries prefix vs = map (extension_entry prefix) vs
