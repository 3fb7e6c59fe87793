-- The lists that a generated app is judged by: the sample lists, with the greatest number of rows.
use Rattle.std.specs.Prelude.{ℕ, List, ◌++◌, codes}

-- a class, with what stands behind its name
abbrev pub class_text : List ℕ → List ℕ → List ℕ
class_text name rest = codes "\n[[class]]\nname = \"" ++ name ++ codes "\"\n" ++ rest

abbrev pub parents_text : List ℕ → List ℕ
parents_text parent = codes "parents = [\"" ++ parent ++ codes "\"]\n"

abbrev pub shared_text : List ℕ → List ℕ → List ℕ
shared_text name class = codes "\n[[shared]]\nname = \"" ++ name ++ codes "\"\nclass = \"" ++ class ++ codes "\"\n"

-- a method of a class, with what stands behind its descriptor
abbrev pub method_text : List ℕ → List ℕ → List ℕ → List ℕ → List ℕ
method_text class name proto rest = codes "\n[[method]]\nclass = \"" ++ class ++ codes "\"\nname = \"" ++ name ++ codes "\"\nproto = \"" ++ proto ++ codes "\"\n" ++ rest

unfoldable pub lists_text : List ℕ
lists_text =
    codes "# What the office says of the library: which values are personal data, where they must not go\n"
    ++ codes "# undeclared, and what a library call does with its arguments.\n"
    ++ codes "rows = 4000000\ncategories = [\"device_id\", \"sms\", \"network\", \"log\"]\n"
    ++ class_text (codes "Ljava/lang/Object;") (codes "default = \"blank\"\n")
    ++ class_text (codes "Ljava/lang/String;") (parents_text (codes "Ljava/lang/Object;") ++ codes "default = \"joined\"\n")
    ++ class_text (codes "Ljava/lang/StringBuilder;") (parents_text (codes "Ljava/lang/Object;") ++ codes "default = \"mixed\"\n")
    ++ class_text (codes "Ljava/lang/reflect/Method;") (parents_text (codes "Ljava/lang/Object;") ++ codes "default = \"blank\"\n")
    ++ class_text (codes "Landroid/content/Context;") (parents_text (codes "Ljava/lang/Object;") ++ codes "default = \"blank\"\n")
    ++ class_text (codes "Landroid/app/Activity;") (parents_text (codes "Landroid/content/Context;") ++ codes "default = \"blank\"\n")
    ++ class_text (codes "Landroid/app/Service;") (parents_text (codes "Landroid/content/Context;") ++ codes "default = \"blank\"\n")
    ++ class_text (codes "Landroid/app/Application;") (parents_text (codes "Landroid/content/Context;") ++ codes "default = \"blank\"\n")
    ++ class_text (codes "Landroid/content/BroadcastReceiver;") (parents_text (codes "Ljava/lang/Object;") ++ codes "default = \"blank\"\n")
    ++ class_text (codes "Landroid/view/View;") (parents_text (codes "Ljava/lang/Object;") ++ codes "default = \"blank\"\n")
    ++ class_text (codes "Landroid/content/Intent;") (parents_text (codes "Ljava/lang/Object;") ++ codes "default = \"blank\"\n")
    ++ class_text (codes "Landroid/content/SharedPreferences;") (parents_text (codes "Ljava/lang/Object;") ++ codes "default = \"blank\"\n")
    ++ class_text (codes "Landroid/content/SharedPreferences$Editor;") (parents_text (codes "Ljava/lang/Object;") ++ codes "default = \"blank\"\n")
    ++ class_text (codes "Landroid/telephony/TelephonyManager;") (parents_text (codes "Ljava/lang/Object;") ++ codes "default = \"blank\"\n")
    ++ class_text (codes "Landroid/telephony/SmsManager;") (parents_text (codes "Ljava/lang/Object;") ++ codes "default = \"blank\"\n")
    ++ class_text (codes "Lvendor/Device;") (parents_text (codes "Ljava/lang/Object;"))
    ++ class_text (codes "Lvendor/Net;") (parents_text (codes "Ljava/lang/Object;"))
    ++ shared_text (codes "prefs") (codes "Landroid/content/SharedPreferences;")
    ++ shared_text (codes "own_prefs") (codes "Landroid/content/SharedPreferences;")
    ++ method_text (codes "Ljava/lang/Object;") (codes "clone") (codes "()Ljava/lang/Object;") (codes "result = \"same\"\nfrom = [0]\n")
    ++ method_text (codes "Ljava/lang/StringBuilder;") (codes "append") (codes "(Ljava/lang/String;)Ljava/lang/StringBuilder;") (codes "result = \"same\"\nfrom = [0]\nputs = [[1, 0]]\n")
    ++ method_text (codes "Ljava/lang/StringBuilder;") (codes "toString") (codes "()Ljava/lang/String;") (codes "result = \"joined\"\nfrom = [0]\n")
    ++ method_text (codes "Ljava/lang/reflect/Method;") (codes "invoke") (codes "(Ljava/lang/Object;[Ljava/lang/Object;)Ljava/lang/Object;") (codes "reflective = true\n")
    ++ method_text (codes "Landroid/content/Context;") (codes "getSharedPreferences") (codes "(Ljava/lang/String;I)Landroid/content/SharedPreferences;") (codes "result = \"shared\"\nshared = \"prefs\"\n")
    ++ method_text (codes "Landroid/app/Activity;") (codes "getPreferences") (codes "(I)Landroid/content/SharedPreferences;") (codes "result = \"shared\"\nshared = \"own_prefs\"\n")
    ++ method_text (codes "Landroid/content/SharedPreferences;") (codes "edit") (codes "()Landroid/content/SharedPreferences$Editor;") (codes "result = \"same\"\nfrom = [0]\n")
    ++ method_text (codes "Landroid/content/SharedPreferences;") (codes "getString") (codes "(Ljava/lang/String;Ljava/lang/String;)Ljava/lang/String;") (codes "result = \"taken\"\nfrom = [0]\n")
    ++ method_text (codes "Landroid/content/SharedPreferences$Editor;") (codes "putString") (codes "(Ljava/lang/String;Ljava/lang/String;)Landroid/content/SharedPreferences$Editor;") (codes "result = \"same\"\nfrom = [0]\nputs = [[2, 0]]\n")
    ++ method_text (codes "Landroid/telephony/TelephonyManager;") (codes "getDeviceId") (codes "()Ljava/lang/String;") (codes "source = \"device_id\"\n")
    ++ method_text (codes "Landroid/telephony/SmsManager;") (codes "sendTextMessage") (codes "(Ljava/lang/String;Ljava/lang/String;Ljava/lang/String;Landroid/app/PendingIntent;Landroid/app/PendingIntent;)V") (codes "sink = \"sms\"\npositions = [3]\n")
    ++ method_text (codes "Lvendor/Device;") (codes "id") (codes "()Ljava/lang/String;") (codes "static = true\nsource = \"device_id\"\n")
    ++ method_text (codes "Lvendor/Net;") (codes "post") (codes "(Ljava/lang/Object;)V") (codes "static = true\nsink = \"network\"\npositions = [0]\n")
