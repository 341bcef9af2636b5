mod Placed
mod ScriptAnswers
