-- A reply that is no pass has no images: it is any of the reply's cases but the first. Assumes nothing.
use mathlib.Core.Path.{◌≡◌, refl}
use Rattle.std.specs.Prelude.{Ok, Err}
use Rattle.rounds.specs.declared.Passed.{Passed}
use Rattle.rounds.specs.Replies.{CheckReply}
use Rattle.rounds.specs.Answers.{images}

pub no_images : (r : CheckReply) → ((p : Passed) → r ≡ Ok p → ⊥) → 0 ≡ images r
no_images (Ok p) k = absurd (k p refl)
no_images (Err e) k = refl
