-- What was taught keeps what every lore keeps. Assumes nothing.
use Rattle.lore.proofs.TaughtLaws.{known_lore}
use Rattle.lore.proofs.Lore.teach.Goals as goal

pub invariant_of-self : goal.invariant_of-self
invariant_of-self c =
    record {
      known =
          known_lore c.args.states c.args.rules.now c.args.ends.now c.teach.new.lore c.requires.states_le_most_states c.requires.rules_below
          c.requires.names_below c.requires.ends_below c.teach.ensures;
    }
