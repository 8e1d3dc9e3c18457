-- Worked schedules.
use Rattle.std.specs.Prelude.{◌≡◌, ℕ, List, [], ◌++◌, codes, None, Some}
use Rattle.schedule_text.specs.declared.cause.ScheduleCause.{ScheduleCause}
use Rattle.schedule_text.specs.Judged.{ScheduleOutcome, judged}

-- a ring of 1,024 words, and further lines
abbrev pub with_ring : List ℕ → List ℕ
with_ring lines = codes "nanolog-schedule 1\nrings 1 1024\n" ++ lines

-- a frame of three words is stored, published, loaded, read and released
abbrev pub one_frame : List ℕ
one_frame = with_ring (codes
    "look 0\nstore 0 3\nstore 0 1003\nstore 0 7\npublish 0\nload 0\nread 0\nread 0\nread 0\nrelease 0\n")

-- what is printed of it
abbrev pub one_frame_lines : List ℕ
one_frame_lines =
    codes "1 look 0: written 0 published 0 released 0 seen 0 loaded 0 read 0\n"
    ++ codes "2 store 0: written 1 published 0 released 0 seen 0 loaded 0 read 0\n"
    ++ codes "3 store 0: written 2 published 0 released 0 seen 0 loaded 0 read 0\n"
    ++ codes "4 store 0: written 3 published 0 released 0 seen 0 loaded 0 read 0\n"
    ++ codes "5 publish 0: written 3 published 3 released 0 seen 0 loaded 0 read 0\n"
    ++ codes "6 load 0: written 3 published 3 released 0 seen 0 loaded 3 read 0\n"
    ++ codes "7 read 0: written 3 published 3 released 0 seen 0 loaded 3 read 1\n"
    ++ codes "8 read 0: written 3 published 3 released 0 seen 0 loaded 3 read 2\n"
    ++ codes "9 read 0: written 3 published 3 released 0 seen 0 loaded 3 read 3\n"
    ++ codes "10 release 0: written 3 published 3 released 3 seen 0 loaded 3 read 3\n"
    ++ codes "ring 0: sent 1 got 1 open\n"

-- all of it is right, and this is printed
abbrev pub done_with : List ℕ → ScheduleOutcome
done_with printed = record { printed = printed; refused = None }

-- behind what is printed, a line is refused
abbrev pub refused_behind : List ℕ → ℕ → ScheduleCause → ScheduleOutcome
refused_behind printed line cause = record { printed = printed; refused = Some (line, cause) }
