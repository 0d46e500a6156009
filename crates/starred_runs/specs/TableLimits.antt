-- Document 01's limits, each met and passed by one. (The 1,000,000th send is among "Runs to check".)
use Rattle.std.specs.Prelude.{ℕ, List, [], ◌++◌, ◌∷◌}
use Prim.Native.String.{String}
use Rattle.decimal.specs.Bytes.{bytes}
use Rattle.starred_runs.specs.Case.{Case, bytes_of, conclusive, drives, prints, ring_start_ask, spent, waiting}
use Rattle.starred_runs.specs.RingStates.{active, handed, holder, white_token}

-- 112 node numbers of five digits, 672 bytes
abbrev pub fives : List ℕ
fives =
    bytes " 10000 10001 10002 10003 10004 10005 10006 10007 10008 10009"
    ++ (bytes " 10010 10011 10012 10013 10014 10015 10016 10017 10018 10019"
    ++ (bytes " 10020 10021 10022 10023 10024 10025 10026 10027 10028 10029"
    ++ (bytes " 10030 10031 10032 10033 10034 10035 10036 10037 10038 10039"
    ++ (bytes " 10040 10041 10042 10043 10044 10045 10046 10047 10048 10049"
    ++ (bytes " 10050 10051 10052 10053 10054 10055 10056 10057 10058 10059"
    ++ (bytes " 10060 10061 10062 10063 10064 10065 10066 10067 10068 10069"
    ++ (bytes " 10070 10071 10072 10073 10074 10075 10076 10077 10078 10079"
    ++ (bytes " 10080 10081 10082 10083 10084 10085 10086 10087 10088 10089"
    ++ (bytes " 10090 10091 10092 10093 10094 10095 10096 10097 10098 10099"
    ++ (bytes " 10100 10101 10102 10103 10104 10105 10106 10107 10108 10109"
    ++ (bytes " 10110 10111")))))))))))

-- a first line that names them
abbrev pub long_line : String → List ℕ
long_line i = bytes "(ring 2 (active " ++ (bytes i ++ (fives ++ bytes ") (black))\n"))

unfoldable pub limits : List Case
limits =
    -- "move limit above 1,000"
    drives (handed []) 1000 conclusive 3
    ∷ drives (handed []) 1001 11 0
    -- "M = 0 is valid"; "tested before each move in this order"
    ∷ drives (handed (white_token ∷ [])) 0 conclusive 0
    ∷ drives (handed (white_token ∷ active 0 ∷ [])) 0 waiting 0
    ∷ drives (handed (holder 1 ∷ active 1 ∷ [])) 0 waiting 0
    ∷ drives (handed []) 0 spent 0
    -- "flag bytes not N in number, or one above 3"
    ∷ ring_start_ask 2 (3 ∷ 3 ∷ []) 0
    ∷ ring_start_ask 2 (3 ∷ 4 ∷ []) 2
    ∷ ring_start_ask 2 (4 ∷ 3 ∷ []) 2
    ∷ ring_start_ask 2 (3 ∷ []) 2
    ∷ ring_start_ask 2 (3 ∷ 3 ∷ 3 ∷ []) 2
    -- "lists ascend without repeats"
    ∷ prints
    (bytes "(ring 3 (active 0 1) (black 1 2))\n")
    "(ok 1)\n(end (boards 3) (holder 0) (moves 0) (flight 0) (black 2))\n"
    ∷ prints (bytes "(ring 3 (active 1 1) (black))\n") "(no 1 10)\n"
    ∷ prints (bytes "(ring 3 (active 1 0) (black))\n") "(no 1 10)\n"
    ∷ prints (bytes "(ring 3 (active) (black 2 2))\n") "(no 1 10)\n"
    ∷ prints (bytes "(ring 3 (active) (black 2 1))\n") "(no 1 10)\n"
    -- "at most 700 bytes with it": the form is judged, its node numbers being N or more
    ∷ bytes_of (long_line "0") 700
    ∷ prints (long_line "0") "(no 1 6)\n"
    ∷ bytes_of (long_line "10") 701
    ∷ prints (long_line "10") "(no 1 10)\n"
    -- "numbers are decimal, one to five digits without leading zeros"
    ∷ prints
    (bytes "(ring 1)\n(idle 99999)\n(idle 100000)\n(idle 00)\n(idle )\n")
    "(ok 1)\n(no 2 6)\n(no 3 10)\n(no 4 10)\n(no 5 10)\n(end (boards 1) (holder 0) (moves 0) (flight 0) (black 0))\n"
    ∷ prints
    (bytes "(tree 1 (root 0))\n(take 0 99999)\n(take 0 100000)\n(take 0 00)\n(take 0 )\n")
    "(ok 1)\n(no 2 6)\n(no 3 10)\n(no 4 10)\n(no 5 10)\n(end (boards 1) (engaged (0)) (acks 0))\n"
    ∷ prints (bytes "(ring 99999)\n") "(no 1 1)\n"
    ∷ prints (bytes "(ring 100000)\n") "(no 1 10)\n"
    ∷ []
