-- What the data sheet says of initialization, modes, polls and rotation.
use Rattle.dev_pic.proofs.BitLaws.{level_inputs-lt, has-and, has-or, has-but_not, has-without_same, has-without_other, has-with_same, and_not_true}
use Rattle.dev_pic.proofs.Facade
use Facade.{RotatesAtOnce, refl, NumbersAre, ◌≡◌, ℕ, ◌<◌, true, false, arith, has, started, written_even, written_odd_in, InitializesByWords, Chip}
use Facade.{Bool, Some, sym, ◌∙◌, false≢true, without_input, requests_of, in_service_of, served_of, winner_at, taken, settled, ended, ended_lowest}
use Facade.{highest_served, commanded, answered, MaskedNeverWins, ServedBlocksLower, IsHighestServed, EndsService, EoiEndsHighest, AckWithoutWinner}
use Facade.{TakesWinner, TakesLinesOver, acked_for, input_at, IsWinner, Role, Option, selected, polled_by, read_of, PollsOnce, NestsSpecially}
use Rattle.dev_pic.proofs.WinnerLaws.{winner_of-means, is_highest, highest_none}

-- ---- the numbers are the constants' by their definition

pub numbers_are : NumbersAre
numbers_are = record { elcr = refl; ltim = refl; cells = refl }

-- ---- what holds after the initialization words

pub initializes_by_words : InitializesByWords
unfolding started written_even written_odd_in
initializes_by_words = search arith

-- ---- laws of the modes in the data sheet's terms

-- The winner of a chip meets the relation.
won : (role : Role) (chip : Chip) (input : ℕ) → winner_at role chip ≡ Some input → IsWinner chip.lowest (requests_of chip) (served_of role chip) input
unfolding winner_at
won role chip input e = rw e at (winner_of-means chip.lowest (requests_of chip) (served_of role chip))

pub masked_never_wins : MaskedNeverWins
masked_never_wins role chip input bound within masked e =
    let requested = rw (has-but_not chip.irr chip.imr input bound within, masked, and_not_true (has chip.irr input)) at (won role chip input e).requested in
    false≢true requested

-- Except in special mask and special fully nested mode, all of `isr` counts.
plain_service : (role : Role) (chip : Chip) → chip.special_mask ≡ false → chip.nested ≡ false → served_of role chip ≡ chip.isr
unfolding served_of
plain_service role chip mask nested = grind arith

pub served_blocks_lower : ServedBlocksLower
served_blocks_lower role chip place lower mask nested le within served e =
    let w = won role chip (input_at chip.lowest lower) e in
    let clear = w.before_served place (omega arith) in
    false≢true (sym (rw (plain_service role chip mask nested) at clear) ∙ served)

-- What the end of an input's service means, whichever input then has the lowest priority.
ends_with : (chip : Chip) (input lowest : ℕ) → input < 8 → EndsService input chip (record chip { isr = without_input chip.isr input; lowest = lowest })
ends_with chip input lowest within = search (has-without_same, has-without_other)

found : (chip : Chip) (input : ℕ) → IsHighestServed chip input → highest_served chip ≡ Some input
found chip input h = search (arith, is_highest)

pub eoi_ends_highest : EoiEndsHighest
unfolding commanded ended ended_lowest written_even
eoi_ends_highest = record {
  words = λ level chip. (refl, refl);
  highest = λ chip input bound h. rw (found chip input h) (ends_with chip input chip.lowest (omega arith), refl);
  rotating = λ chip input bound h. rw (found chip input h) (ends_with chip input input (omega arith), refl);
  nothing = λ chip none. let e = highest_none chip.lowest (in_service_of chip) none in (rw e, rw e);
}

pub ack_without_winner : AckWithoutWinner
unfolding acked_for answered
ack_without_winner = search arith

pub takes_winner : TakesWinner
unfolding taken
takes_winner = search (arith, has-without_same, has, has-with_same)

pub takes_lines_over : TakesLinesOver
unfolding settled
takes_lines_over inputs edges chip input lines elcr within = grind (arith, level_inputs-lt, has-or, has-but_not, has-and, has)

-- ---- polls

-- Taking an input doesn't change `poll`.
by_winner : (o : Option ℕ) (chip : Chip) → (polled_by o chip).1.poll ≡ false
unfolding polled_by taken
by_winner o chip = grind arith

polled : (role : Role) (is_odd : Bool) (chip : Chip) → chip.poll ≡ true → read_of role is_odd chip ≡ polled_by (winner_at role chip) chip
unfolding read_of
polled role is_odd chip poll = rw poll

pub polls_once : PollsOnce
unfolding written_even selected polled_by
polls_once = search (arith, polled, by_winner)

-- ---- special fully nested mode

pub nests_specially : NestsSpecially
unfolding served_of
nests_specially = search (arith, has-without_same, has-without_other)

-- ---- rotation

pub rotates_at_once : RotatesAtOnce
unfolding written_even commanded taken
rotates_at_once = search arith
