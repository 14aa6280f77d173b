-- What a schema derives: a state derives a word exactly when it leads through it to an ending state. By induction on the derivation.
-- Assumes nothing.
use mathlib.Core.List.{List}
use Prim.Native.Nat.{ℕ, ◌<◌}
use Rattle.words.specs.Tags.{Tag}
use Rattle.hedge.specs.Schema.{Schema, Derives, derives_empty, derives_rule, Leads, leads_here, leads_rule}

module _ {S : Schema} where
  pub leads_derives : {x t : ℕ} {w : List Tag} → Leads S x w t → S.Ending t → Derives S x w
  leads_derives (leads_here h) e = derives_empty e
  leads_derives (leads_rule r d l) e = derives_rule r d (leads_derives l e)

  module _ (ending_below : (t : ℕ) → S.Ending t → t < S.states) where
    pub derives_leads : {x : ℕ} {w : List Tag} → Derives S x w → (t : ℕ) × Leads S x w t × S.Ending t
    derives_leads {x} (derives_empty e) = (x, leads_here (ending_below x e), e)
    derives_leads (derives_rule r d d') = let (t, l, e) = derives_leads d' in (t, leads_rule r d l, e)
