-- Representation: the types of the session's code as data.
use Rattle.othello_board.specs.Words.{cells}
use Rattle.session.specs.declared.requests.LineCommand.{LineCommand as Commanded}
use Rattle.session.specs.declared.requests.LineCommand.TheVariants.{AtFirst as at_first, OnceSeated as once_seated, AtAnyTime as at_any_time}
use Rattle.session.specs.declared.requests.Request.{Request as Requested}
use Rattle.session.specs.declared.requests.Request.TheVariants.{Fault as fault, Hello as to_hello, Reserve as to_reserve, Ask as to_ask, Get as to_get, Wait as to_wait, Cancel as to_cancel, Table as to_table, Quota as to_quota, Live as to_live, Bye as to_bye}
use Rattle.session.specs.Calls.{Hello, Reserve, Ask, Get, Wait, Cancel, AskQuota, AskLive}
use Rattle.session.specs.Requests.{Request, Fault, Makes, Tabulates, Ends, LineCommand, AtFirst, OnceSeated, AtAnyTime}

-- what a session's line asks for, as the contracts see it, from the type of the code
abbrev pub request_seen : Requested → Request
request_seen (fault met) = Fault met
request_seen (to_hello amounts) = Makes (Hello amounts)
request_seen (to_reserve amounts) = Makes (Reserve amounts)
request_seen (to_ask question) = Makes (Ask question.depth (cells question.position.board) question.position.side)
request_seen (to_get job) = Makes (Get job)
request_seen (to_wait job) = Makes (Wait job)
request_seen (to_cancel job) = Makes (Cancel job)
request_seen (to_table job) = Tabulates job
request_seen to_quota = Makes AskQuota
request_seen to_live = Makes AskLive
request_seen to_bye = Ends

-- the command of a session's line as the contracts see it, from the type of the code
abbrev pub line_command_seen : Commanded → LineCommand
line_command_seen (at_first amounts) = AtFirst amounts
line_command_seen (once_seated asked) = OnceSeated (request_seen asked)
line_command_seen at_any_time = AtAnyTime
