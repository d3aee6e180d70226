use Rattle.std.proofs.Common.{refl}
use Rattle.clap.proofs.OnLiterals.{clap_on_literals}
use Rattle.mls_cli_serve.proofs.arguments.examples.Goals as goal

pub returns : goal.returns
unfolding clap_on_literals
returns c = record { help = refl; version = refl; missing = refl; shows = refl; shows_all = refl; replays = refl; judges = refl; checks = refl; chosen = refl; info = refl; shows_json = refl; info_json = refl; drawn_json = refl; places = refl; no_places = refl; draws = refl; draws_info = refl; message = refl; tree = refl; quiet = refl; progress = refl; recorded = refl; picture = refl; picture_and_message = refl; svg = refl; svg_width = refl; no_drawing = refl; two = refl; number = refl; other = refl; taken = refl }
