use Rattle.name_rules.proofs.Characters.{character_ascii}
use Rattle.free_names.proofs.short_names.character.Goals as goal

pub returns-clause-ascii : goal.returns-clause-ascii
returns-clause-ascii c = character_ascii c.args.digit c.requires
