-- The field says only that a proof of its facts exists. An entailment is a proposition, so the
-- proof may be opened before the walk that Rattle made.
use seplogic.Bi.Basic.{Entails-prop}
use mathlib.Core.Logic.{∥∥₁_elim}
use base.Logic.{via, mono_r}
use denote.Triple.Entry.{on_entry}
use borrow.Fn.Kinds.{sig_of}
use contract.Monad.{fact_mono}
use Rattle.vms_hooks.specs.Facts.{Saves, Loads}
use Rattle.vms_hooks.proofs.hooks.Hooks.known.Statement.{statement}
use Rattle.vms_hooks.proofs.hooks.Hooks.known.Lts as lts
use Rattle.vms_hooks.proofs.hooks.Hooks.known.Reads as reads
use Rattle.vms_hooks.proofs.hooks.Hooks.known.Tie as tie

pub known_spec : {M : Type 1} → statement M
known_spec {M} =
    tie.close (λ D P L LD LP LL d dd p pd pc pcd l ld lc lcd w md mp mpc ml mlc 𝓤 𝓛 𝓣 y.
    ∥∥₁_elim y.0.3.0.now.facts (Entails-prop 𝓤.op _ _) (λ known.
    via 𝓤 _ (mono_r 𝓤 (on_entry 𝓛 (sig_of 4 (lts.ps D P L LD LP LL d dd p pd pc pcd l ld lc lcd) (lts.r D P L LD LP LL d dd p pd pc pcd l ld lc lcd)) y.0.0 y.0.1 y.0.3 y.0.4)
    (fact_mono 𝓤 _ (Saves d.can_save d.saves_as p.may_save p.gives_cells y.0.3.0.now.pre × Loads d.can_restore d.restores_to l.may_load l.answers y.0.3.0.now.post) (λ _. known)))
    (lts.spec D P L LD LP LL d dd p pd pc pcd l ld lc lcd (λ κs a. Saves d.can_save d.saves_as p.may_save p.gives_cells a.0.now.pre × Loads d.can_restore d.restores_to l.may_load l.answers a.0.now.post) (reads.Post D P L LD LP LL d dd p pd pc pcd l ld lc lcd) (λ c. c.requires) 𝓤 𝓛 𝓣 y)))
