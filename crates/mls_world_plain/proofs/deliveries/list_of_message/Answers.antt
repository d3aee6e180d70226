use Rattle.std.specs.Option.{option_copied}
use Rattle.mls_world_plain.proofs.Readings.{list_shown, no_list_shown}
use Rattle.mls_world_plain.proofs.deliveries.list_of_message.Goals as goal

pub returns-in-PublicMessage : goal.returns-in-PublicMessage
returns-in-PublicMessage c = list_shown c.args.message.now _ (option_copied c.list_of_body.result) c.in-PublicMessage.is c.list_of_body.ensures

pub returns-in_default : goal.returns-in_default
returns-in_default c = no_list_shown c.args.message.now c.in_default.not-PublicMessage
