-- The thirteen trial nights marked P, together as one fact about the written meaning, computed by the checker; so are the tables
-- and the nights of the requests.
use mathlib.Core.Path.{◌≡◌, refl}
use mathlib.Core.Bool.{true}
use Rattle.yard.specs.Replay.{yard_at, passes, pulled, pull_size, fullest_pull, early, lowest_early, first_early, first_overfull, built, in_order}
use Rattle.yard.specs.Codes.{usable, allowed, allowed_codes, code_number, fewest_steps, fewest_tracks}
use Rattle.yard.specs.Derived.{steps_needed, derived_codes, derived_plan}
use Rattle.yard.specs.Calls.{derive_answer, check_answer, replay_answer}
use Rattle.yard.specs.Card.{layout, limits_of, edition_for, head_length, card_length, fields, card, head_on, lists_on, card_plan, right_length}
use Rattle.yard.specs.Card.{ends_right, reader_verdict}
use Rattle.yard.specs.Trials.{trials, tables, requests, agree}

pub trials-agree : agree trials ≡ true
unfolding trials derive_answer check_answer steps_needed derived_codes derived_plan usable allowed allowed_codes code_number fewest_steps yard_at passes
    pulled pull_size fullest_pull early lowest_early first_early first_overfull built in_order
trials-agree = refl

pub tables_agree : agree tables ≡ true
unfolding tables layout edition_for card fields derived_plan steps_needed derived_codes usable allowed allowed_codes code_number fewest_steps fewest_tracks yard_at
    pulled early lowest_early first_early
tables_agree = refl

pub requests-agree : agree requests ≡ true
unfolding requests derive_answer check_answer replay_answer steps_needed derived_codes derived_plan usable allowed allowed_codes code_number fewest_steps yard_at passes
    pulled pull_size fullest_pull early lowest_early first_early first_overfull built in_order fewest_tracks layout limits_of edition_for head_length card_length
    fields card head_on lists_on card_plan right_length ends_right reader_verdict
requests-agree = refl
