-- What a replay writes with status 0 is the report of a replay that keeps its promises.
use Rattle.std.proofs.Common.{◌≡◌, ℕ, List, Ok}
use Rattle.rl_place.specs.Places.{ThePlace}
use Rattle.rl_ops.specs.declared.ops.Ops.{Ops}
use Rattle.rl_ops.specs.declared.schedule.Schedule.{Schedule}
use Rattle.rl_report.specs.Naming.{naming_of}
use Rattle.rl_report.specs.Spelling.{report_spelling}
use Rattle.rl_report.specs.Reading.{report_at}
use Rattle.rl_check.specs.LawfulReplays.{IsLawfulReplay}
use Rattle.rl_check.specs.Legal.{IsLegalReport}
use Rattle.rl_program.specs.Replay.{report_of_replay}
use Rattle.rl_inputs.specs.Files.{Names, Texts}
use Rattle.rl_program.specs.Headline.{KeepsPromises}
use Rattle.rl_program.specs.ReadBack.{IsReplayReadBack}
use Rattle.rl_inputs.specs.Reading.{placed, called, scheduled}
use Rattle.rl_program.proofs.SpelledLaws.{PlaceRead, place_read, calls_read, schedule_read}

-- texts that are replayed, and their report that is read back
pub is_replay : (names : Names) (texts : Texts) (place : ThePlace) (ops : Ops) (schedule : Schedule) (text : List ℕ) →
    placed names.place texts.place ≡ Ok place →
    called names.calls place texts.calls ≡ Ok ops → scheduled names.schedule place texts.schedule ≡ Ok schedule →
    text ≡ report_spelling (naming_of place) (report_of_replay place ops schedule) → KeepsPromises place ops schedule → IsLawfulReplay place
    ops (report_of_replay place ops schedule) → IsLegalReport place ops (report_of_replay place ops schedule) →
    report_at (naming_of place) text ≡ Ok (report_of_replay place ops schedule) → IsReplayReadBack texts text
is_replay names texts place ops schedule text p c s is kept lawful legal again =
    let read : PlaceRead texts.place place = place_read names.place texts.place place p in
    let turns = schedule_read names.schedule place texts.schedule schedule read.ranks s in
    record {
      replay = record {
        place = place;
        ops = ops;
        schedule = schedule;
        proper = read.proper;
        fits = turns.0;
        place_spelled = read.spelled;
        calls_spelled = calls_read names.calls place texts.calls ops read.ranks read.shards c;
        schedule_spelled = turns.1;
        bytes = is;
        kept = kept;
        lawful = lawful;
      };
      back = record { read = again; legal = legal };
    }
