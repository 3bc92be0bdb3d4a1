-- What values of the types stand for, wherever their parts lie in memory.
use Rattle.std.specs.Prelude.{ℕ, List, Option, map, option_map, length}
use Rattle.homeo_live.specs.LiveView.{plain_node, plain_packet, plain_past}
use Rattle.homeo_desk.specs.declared.output.Answer.{Answer}
use Rattle.homeo_desk.specs.declared.state.DeskState.{DeskState}
use Rattle.homeo_lines.specs.Lines as l
use Rattle.homeo_lines.specs.declared.line.Init.{Init}
use Rattle.homeo_lines.specs.declared.line.Line.{Line}
use Rattle.homeo_lines.specs.declared.line.Message.{Message}
use Rattle.homeo_lines.specs.declared.line.Message.TheVariants as message
use Rattle.homeo_lines.specs.declared.writing.Body.{Body}
use Rattle.homeo_lines.specs.declared.writing.Body.TheVariants as body

abbrev pub plain_answer : Answer → l.Answer
plain_answer a = record { number = a.number; call = a.call; prints = a.prints.items; round = a.round; path = a.path }

abbrev pub plain_state : DeskState → l.State
plain_state s = record { node = plain_node s.node; made = s.made; queue = s.queue.items; answered = map plain_answer s.answered.items }

abbrev pub plain_body : Body → l.Body
plain_body (body.InitOk number) = l.InitOk number
plain_body (body.CallOk answer) = l.CallOk (plain_answer answer.now)
plain_body (body.Error number wrong) = l.Error number wrong.code wrong.text.now
plain_body (body.Packet packet) = l.Sent (plain_packet packet.now)
plain_body (body.Left past) = l.Left (plain_past past.now)
plain_body (body.SnapshotOk number state) = l.SnapshotOk number (plain_state state.now)
plain_body (body.StatusOk number desk) = l.StatusOk number desk.now.node (length desk.now.queue)

abbrev pub plain_init : Init → l.Message
plain_init i = l.Init i.node i.nodes.items (option_map plain_state i.state)

abbrev pub plain_message : Message → l.Message
plain_message (message.Init init) = plain_init init
plain_message (message.Call call) = l.Call call
plain_message (message.Packet packet) = l.Came (plain_packet packet)
plain_message (message.Left past) = l.HasLeft (plain_past past)
plain_message message.Tick = l.Tick
plain_message message.Snapshot = l.Snapshot
plain_message message.Status = l.Status
plain_message (message.Wrong wrong) = l.Wrong wrong.code

abbrev pub plain_line : Line → l.Line
plain_line x = record { from = x.head.from; number = x.head.number; message = plain_message x.message }
